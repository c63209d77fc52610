use Rattle.std.proofs.Common.{take}
use Rattle.account_states.specs.Count.{users_put, Gains}
use Rattle.account_states.proofs.count.note_kept.Given as goal

abbrev pub invariant-loop-i : goal.invariant-loop-i
invariant-loop-i g l = Gains l.initial.seen (users_put (take l.i l.chronicle.list)) l.seen
