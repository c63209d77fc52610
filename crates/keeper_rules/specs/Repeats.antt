-- Rows that an earlier one goes against.
use Rattle.std.specs.Prelude.{ℕ, min, Bool, List, [], ◌∷◌, ◌++◌, length, Option, Some, None, if◌then◌else◌}
use Rattle.std.specs.List.{list_any}

-- the place of the first item that one of these, or one of the items before it, is the same as
unfoldable pub repeat_after : {A : Type 0} → (A → A → Bool) → List A → List A → Option ℕ
repeat_after same before [] = None
repeat_after same before (item ∷ items) =
    if list_any (same item) before then Some (length before) else repeat_after same (before ++ item ∷ []) items

-- the place of the first item that an earlier one is the same as
abbrev pub first_repeat : {A : Type 0} → (A → A → Bool) → List A → Option ℕ
first_repeat same items = repeat_after same [] items

-- the earlier one of two places
abbrev pub earlier : Option ℕ → Option ℕ → Option ℕ
earlier None other = other
earlier (Some place) None = Some place
earlier (Some place) (Some other) = Some (min place other)
