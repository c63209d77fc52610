use Rattle.std.proofs.Common.{sym, ◌∙◌}
use Rattle.keeper_rules.proofs.RepeatLemmas.{none_noted, repeats_here, one_noted, repeats_nowhere}
use Rattle.keeper_rules.proofs.repeats.first_repeat.Goals as goal

pub keys-init : goal.keys-init
keys-init g c = none_noted g.K.Ord.cmp c.new-seen.result.keys c.args.keys.now c.new-seen.ensures.empty

pub returns-then-not-branch-clause-ok : goal.returns-then-not-branch-clause-ok
returns-then-not-branch-clause-ok g c =
    repeats_here g.K.Ord.cmp c.keys.seen.keys c.args.keys.now c.keys.at c.index-keys-at.result c.index-keys-at.is c.keys.invariant c.keys-test.true
    (sym c.in_ok-insert.ensures.added ∙ c.if-not-branch.true)

pub keys-preserved : goal.keys-preserved
keys-preserved g c =
    one_noted g.met.K.Ord.total c.keys.seen c.insert.new.self c.args.keys.now c.keys.at c.index-keys-at.result c.index-keys-at.is c.keys.invariant c.keys-test.true
    (sym c.in_ok-insert.ensures.added ∙ c.if-not-branch.false) c.in_ok-insert.ensures.updates

pub returns-clause-ok : goal.returns-clause-ok
returns-clause-ok g c = repeats_nowhere g.K.Ord.cmp c.keys.seen.keys c.args.keys.now c.keys.at c.keys.invariant c.keys-test.false
