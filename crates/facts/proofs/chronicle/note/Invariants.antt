use Rattle.std.proofs.Common.{◌≡◌, take, vec_len}
use Rattle.std.specs.Prelude.{fold}
use Rattle.facts.specs.Kept.{notes_of}
use Rattle.facts.specs.Serials.{known_serial_after}
use Rattle.facts.proofs.chronicle.note.Given as goal

abbrev pub invariant-loop-fact : goal.invariant-loop-fact
invariant-loop-fact l =
    (l.last ≡ fold known_serial_after l.known (take l.fact-index l.facts))
    × (l.notes.items ≡ notes_of l.known (take l.fact-index l.facts))
    × (vec_len l.notes ≡ l.fact-index)
