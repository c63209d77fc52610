-- The changes that a commit makes for the facts of an entry.
use Rattle.std.specs.Prelude.{ℕ, List, [], ◌∷◌, ◌++◌, Option, Some, None, if◌then◌else◌}
use Rattle.std.specs.List.{flat_map}
use Rattle.keeper_rows.specs.declared.change.Row.{Row}
use Rattle.keeper_rows.specs.declared.change.RowKey.{RowKey}
use Rattle.keeper_rows.specs.declared.change.RowKey.TheVariants as keys
use Rattle.keeper_rows.specs.declared.change.Change.{Change}
use Rattle.keeper_rows.specs.declared.change.Change.TheVariants as changes
use Rattle.facts.specs.declared.fact.Fact.{Fact}
use Rattle.fact_rows.specs.Due.{row_due}
use Rattle.fact_rows.specs.Stored.{has_stored}
use Rattle.fact_batches.specs.Touched.{touched}

-- where no row is due at a key, the one that is there goes
abbrev pub drop_of : RowKey → Option Row → List Change
drop_of key None = changes.Drop key ∷ []
drop_of key (Some row) = []

-- where one is due, it is put
abbrev pub put_of : Option Row → List Change
put_of None = []
put_of (Some row) = changes.Put row ∷ []

-- at each of these keys the row that is due: first all that go, then all that are put
abbrev pub changes_to : (RowKey → Option Row) → List RowKey → List Change
changes_to due all = flat_map (λ key. drop_of key (due key)) all ++ flat_map (λ key. put_of (due key)) all

-- The changes for facts that are added at a moment behind others: none, where none of them is stored.
unfoldable pub batch_of : ℕ → List Fact → List Fact → List Change
batch_of moment before added =
    if has_stored added then changes_to (row_due moment (before ++ added)) (touched before added ++ keys.Mark ∷ []) else []

-- the moment of the last change: it is the entry's own, where the entry has a stored fact
abbrev pub stored_moment : ℕ → ℕ → List Fact → ℕ
stored_moment before moment added = if has_stored added then moment else before
