-- The moment that a base of facts was last used.
use Rattle.std.specs.Prelude.{ℕ, List, Option, Some, None, unwrap_or}
use Rattle.facts.specs.declared.fact.Fact.{Fact}
use Rattle.facts.specs.declared.fact.Fact.TheVariants as events
use Rattle.facts.specs.Places.{last_of}

-- the used moment of a mark
abbrev pub used_by : Fact → Option ℕ
used_by (events.Mark tabs stored used kept) = Some used
used_by event = None

-- the used moment of the last mark, 0 where there is none
unfoldable pub last_used_moment : List Fact → ℕ
last_used_moment facts = unwrap_or (last_of used_by facts) 0
