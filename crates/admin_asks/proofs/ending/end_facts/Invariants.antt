use Rattle.std.proofs.Common.{◌≡◌, map, take}
use Rattle.facts.specs.declared.fact.Fact.TheVariants as events
use Rattle.admin_asks.proofs.ending.end_facts.Given as goal

abbrev pub invariant-loop-session : goal.invariant-loop-session
invariant-loop-session l = l.added ≡ map events.SessionEnd (take l.session-index l.ended)
