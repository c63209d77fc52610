use Rattle.std.proofs.Common.{◌≡◌, ◌+◌, drop, Some}
use Rattle.std.specs.Prelude.{fold}
use Rattle.facts.specs.Sessions.{session_later}
use Rattle.root_states.proofs.sessions.left_kept.Given as goal

abbrev pub invariant-loop-i : goal.invariant-loop-i
invariant-loop-i g l =
    fold session_later (Some l.fn.own) (drop (l.index + 1) l.chronicle.list)
    ≡ fold session_later (Some l.left) (drop l.i l.chronicle.list)
