use Rattle.std.proofs.Common.{◌≡◌, ◌++◌, drop}
use Rattle.root_states.specs.Outlived.{outlived_ids}
use Rattle.root_states.proofs.sessions.add_kept.Given as goal

abbrev pub invariant-loop-i : goal.invariant-loop-i
invariant-loop-i g l =
    l.initial.ended ++ outlived_ids l.now (l.chronicle.list ++ l.more)
    ≡ l.ended ++ outlived_ids l.now (drop l.i l.chronicle.list ++ l.more)
