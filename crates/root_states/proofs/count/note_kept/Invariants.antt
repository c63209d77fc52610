use Rattle.std.proofs.Common.{take}
use Rattle.root_states.specs.Count.{keys_noted, Gains}
use Rattle.root_states.proofs.count.note_kept.Given as goal

abbrev pub invariant-loop-i : goal.invariant-loop-i
invariant-loop-i g l = Gains l.initial.seen (keys_noted l.now l.facts (take l.i l.chronicle.list)) l.seen
