-- Which account has an id.
use Rattle.std.specs.Prelude.{ℕ, ℤ, ◌≡◌, List, Some, None, position, if◌then◌else◌}
use Rattle.std.specs.Option.{option_or}
use Rattle.std.specs.BTreeMap.{BTreeMap, get}
use Rattle.std.specs.Ordering.{int_cmp, int_eq}
use Rattle.keeper_rows.specs.declared.rows.AccountRow.{AccountRow}

-- an id has this place, unless it had one; all others are as they were
abbrev pub IsNoted : BTreeMap ℤ ℕ → BTreeMap ℤ ℕ → ℤ → ℕ → Type 0
IsNoted old new id place = (other : ℤ) →
    get int_cmp new other ≡ option_or (get int_cmp old other) (if int_eq id other then Some place else None)

-- the map has the place of the first account of each id
abbrev pub ArePlaces : BTreeMap ℤ ℕ → List AccountRow → Type 0
ArePlaces places accounts = (id : ℤ) → get int_cmp places id ≡ position (λ (a : AccountRow). int_eq a.id id) accounts
