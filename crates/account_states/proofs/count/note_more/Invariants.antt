use Rattle.std.proofs.Common.{take}
use Rattle.account_states.specs.Count.{users_put, Gains}
use Rattle.account_states.proofs.count.note_more.Given as goal

abbrev pub invariant-loop-fact : goal.invariant-loop-fact
invariant-loop-fact l = Gains l.initial.seen (users_put (take l.fact-index l.more)) l.seen
