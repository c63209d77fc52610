-- How far the counters have come.
use Rattle.std.specs.Prelude.{ℕ, ◌≤◌, List}
use Rattle.facts.specs.declared.fact.Fact.{Fact}
use Rattle.facts.specs.Realms.{last_version}
use Rattle.facts.specs.Serials.{last_tab_serial, last_stored_serial}

-- neither counter of serials nor the realm's version is above this number
pub record HasSerials (facts : List Fact) (last : ℕ) : Type 0 where
  pub tabs : last_tab_serial facts ≤ last
  pub stored : last_stored_serial facts ≤ last
  pub version : last_version facts ≤ last
