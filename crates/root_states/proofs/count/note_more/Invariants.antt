use Rattle.std.proofs.Common.{take}
use Rattle.root_states.specs.Count.{keys_noted, Gains}
use Rattle.root_states.proofs.count.note_more.Given as goal

abbrev pub invariant-loop-fact : goal.invariant-loop-fact
invariant-loop-fact g l = Gains l.initial.seen (keys_noted l.now l.facts (take l.fact-index l.more)) l.seen
