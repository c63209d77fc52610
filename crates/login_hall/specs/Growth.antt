-- How a chronicle grows by entries.
use Rattle.std.specs.Prelude.{ℕ, ◌-◌, ◌^◌, max, min, List, ◌++◌, fold}
use Rattle.std.specs.List.{flat_map}
use Rattle.facts.specs.declared.entry.Entry.{Entry}
use Rattle.facts.specs.declared.fact.Fact.{Fact}
use Rattle.facts.specs.Moments.{last_used_moment}

-- the base, and then the facts that each entry added
unfoldable pub chronicle_of : List Fact → List Entry → List Fact
chronicle_of base journal = base ++ flat_map (λ (entry : Entry). entry.added) journal

-- the moment of the last entry, or that of the base where there is none
unfoldable pub last_moment : List Fact → List Entry → ℕ
last_moment base journal = fold (λ (last : ℕ) (entry : Entry). entry.moment) (last_used_moment base) journal

-- a clock that answers more counts as the last moment
abbrev pub clock_moment : ℕ → ℕ
clock_moment moment = min moment (2 ^ 53 - 1)

-- time never runs back
abbrev pub next_moment : List Fact → List Entry → ℕ → ℕ
next_moment base journal moment = max (last_moment base journal) (clock_moment moment)
