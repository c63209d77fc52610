-- What stored facts leave.
use Rattle.std.proofs.Common.{◌≡◌, ℕ, Bool, true, false, ◌||◌, List, [], ◌∷◌, ◌++◌, refl, ◌∙◌}
use Rattle.std.specs.List.{list_any}
use Rattle.std.proofs.lemmas.List.Folds.{list_any-append}
use Rattle.facts.specs.declared.fact.Fact.{Fact}
use Rattle.keeper_rows.specs.declared.change.RowKey.{RowKey}
use Rattle.keeper_rows.specs.declared.change.RowKey.TheVariants as keys
use Rattle.keeper_rows.specs.declared.change.Change.{Change}
use Rattle.fact_rows.specs.Due.{row_due}
use Rattle.fact_rows.specs.Stored.{is_stored, has_stored, leaves_rows, has_rows}
use Rattle.fact_batches.specs.Batch.{changes_to, batch_of}
use Rattle.fact_batches.specs.Touched.{touched}

or_true : (b : Bool) → (b || true) ≡ true
or_true true = refl
or_true false = refl

some_leave : (facts : List Fact) → has_stored facts ≡ true → list_any leaves_rows facts ≡ true
some_leave [] h = absurd cc
some_leave (fact ∷ facts) h = go (is_stored fact) refl h (some_leave facts)
  where
    go : (b : Bool) → is_stored fact ≡ b → (is_stored fact || has_stored facts) ≡ true → (has_stored facts ≡ true → list_any leaves_rows facts ≡ true)
        → list_any leaves_rows (fact ∷ facts) ≡ true
    go true is h later = rw is refl
    go false is h later = let rest = rw is at h in rw (later rest) (or_true (leaves_rows fact))

pub rows_there : (before added : List Fact) → has_stored added ≡ true → has_rows (before ++ added) ≡ true
unfolding has_rows
rows_there before added h = list_any-append leaves_rows before added ∙ rw (some_leave added h) (or_true (list_any leaves_rows before))

pub batch_made : (moment : ℕ) (before added after : List Fact) (all : List RowKey) (cs : List Change) → has_stored added ≡ true
    → all ≡ touched before added ++ keys.Mark ∷ [] → after ≡ before ++ added → cs ≡ changes_to (row_due moment after) all → cs ≡ batch_of moment before added
unfolding batch_of
batch_made moment before added after all cs stored noted facts made = made ∙ rw (noted, facts, stored) refl

pub no_batch : (moment : ℕ) (before added : List Fact) → has_stored added ≡ false → batch_of moment before added ≡ []
unfolding batch_of
no_batch moment before added none = rw none refl

pub some_batch : (moment : ℕ) (before added : List Fact) → has_stored added ≡ true → batch_of moment before added ≡ changes_to (row_due moment (before ++ added)) (touched before added ++ keys.Mark ∷ [])
unfolding batch_of
some_batch moment before added some = rw some refl
