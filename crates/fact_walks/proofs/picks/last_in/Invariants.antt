use Rattle.std.proofs.Common.{◌≡◌, take}
use Rattle.facts.specs.Places.{last_of}
use Rattle.fact_walks.proofs.picks.last_in.Given as goal

abbrev pub invariant-loop-fact : goal.invariant-loop-fact
invariant-loop-fact g l = l.found ≡ last_of (g.P.Pick.pick l.pick) (take l.fact-index l.more)
