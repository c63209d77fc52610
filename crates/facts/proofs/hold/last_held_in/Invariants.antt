use Rattle.std.proofs.Common.{◌≡◌, take}
use Rattle.std.specs.Option.{option_copied}
use Rattle.facts.specs.Places.{last_of}
use Rattle.facts.proofs.hold.last_held_in.Given as goal

abbrev pub invariant-loop-fact : goal.invariant-loop-fact
invariant-loop-fact g l = option_copied l.found ≡ last_of (g.P.Hold.held l.hold) (take l.fact-index l.more)
