use Rattle.std.proofs.Common.{◌∙◌, take, ap, sym}
use Rattle.std.specs.Option.{option_or}
use Rattle.std.proofs.lemmas.List.{take_more}
use Rattle.conditions.specs.Truth.{last_moment}
use Rattle.conditions.proofs.Moments.{none_yet, one_more}
use Rattle.conditions.proofs.level.last_moment.Goals as goal

pub loop-reached-init : goal.loop-reached-init
loop-reached-init c = sym (none_yet c.args.level)

pub loop-reached-preserved : goal.loop-reached-preserved
loop-reached-preserved c =
    let ls = c.args.levels.now in
    let i = c.loop-reached.reached-index in
    c.later-last.ensures ∙ ap (option_or _) c.loop-reached.invariant ∙ sym (one_more c.args.level (take i ls) _) ∙ ap (last_moment c.args.level) (sym (take_more ls i _ c.loop-reached-test.true))
