use Rattle.keeper_rules.proofs.RepeatLemmas.{Noted}
use Rattle.keeper_rules.proofs.repeats.first_repeat.Given as goal

abbrev pub invariant-keys : goal.invariant-keys
invariant-keys g l = Noted g.K.Ord.cmp l.seen.keys l.keys l.at
