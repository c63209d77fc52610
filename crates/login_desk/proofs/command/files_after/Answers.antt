use Rattle.std.proofs.Common.{◌+◌, drop, ap, sym, ◌∙◌, arith}
use Rattle.login_desk.specs.Command.{files_after, words_read}
use Rattle.login_desk.proofs.WordLemmas.{after_word, no_more, after_all}
use Rattle.login_desk.proofs.command.files_after.Goals as goal

pub returns-in-None : goal.returns-in-None
returns-in-None c =
    no_more c.args.command c.args.arguments.now c.loop-i.i c.argument.result.now (words_read c.loop-i.reading) c.argument.ensures.argument c.in-None.ensures ∙ c.loop-i.invariant

pub loop-i-preserved : goal.loop-i-preserved
loop-i-preserved c =
    ap (λ r. files_after c.args.command r (drop (c.loop-i.i + 1) c.args.arguments.now)) c.in-Some.ensures
    ∙ sym (after_word c.args.command c.args.arguments.now c.loop-i.i c.argument.result.now (words_read c.loop-i.reading) c.argument.ensures.argument) ∙ c.loop-i.invariant

pub returns : goal.returns
returns c =
    c.files_read.ensures ∙ after_all c.args.command c.args.arguments.now c.loop-i.i (words_read c.loop-i.reading) (omega (arith, c.len-i-end.ensures.value, c.loop-i-test.false)) ∙ c.loop-i.invariant
