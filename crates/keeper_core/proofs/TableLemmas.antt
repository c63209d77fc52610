-- A change of a table, by the place of the first row of a key.
use Rattle.std.proofs.Common.{◌≡◌, ℕ, ◌+◌, Bool, true, false, ◌||◌, cond, List, [], ◌∷◌, ◌++◌, length, set, one-add, refl, ap, sym, ◌∙◌, arith}
use Rattle.std.specs.Prelude.{Option, Some, None, position, nat_lt}
use Rattle.std.specs.List.{list_any, remove, position_or_len}
use Rattle.std.proofs.lemmas.Bool.Decides.{nat_tests}
use Rattle.keeper_rows.specs.declared.change.Change.{Change}
use Rattle.keeper_rows.specs.declared.tables.Tables.{Tables}
use Rattle.keeper_rows.specs.Applied.{applied, changed}
use Rattle.keeper_rows.specs.Keys.{replace_first, insert_before, remove_first}
use Rattle.keeper_rules.proofs.OrderLemmas.{place_found}

replaced : {R : Type 0} (test : R → Bool) (row : R) (rows : List R) → set rows (position_or_len test rows) row ≡ replace_first test row rows
unfolding replace_first
replaced test row [] = refl
replaced {R} test row (r ∷ rows) = go (test r) refl (replaced test row rows)
  where
    go : (b : Bool) → test r ≡ b → set rows (position_or_len test rows) row ≡ replace_first test row rows → set (r ∷ rows) (position_or_len test (r ∷ rows)) row ≡ replace_first test row (r ∷ rows)
    go true is later = rw is refl
    go false is later = rw (is, one-add) (ap (λ l. r ∷ l) later)

removed : {R : Type 0} (test : R → Bool) (rows : List R) → remove rows (position_or_len test rows) ≡ remove_first test rows
unfolding remove_first
removed test [] = refl
removed {R} test (r ∷ rows) = go (test r) refl (removed test rows)
  where
    go : (b : Bool) → test r ≡ b → remove rows (position_or_len test rows) ≡ remove_first test rows → remove (r ∷ rows) (position_or_len test (r ∷ rows)) ≡ remove_first test (r ∷ rows)
    go true is later = rw is refl
    go false is later = rw (is, one-add) (ap (λ l. r ∷ l) later)

unchanged : {R : Type 0} (test : R → Bool) (rows : List R) → list_any test rows ≡ false → remove_first test rows ≡ rows
unfolding remove_first
unchanged test [] none = refl
unchanged {R} test (r ∷ rows) none = go (test r) (list_any test rows) refl refl none (unchanged test rows)
  where
    go : (b rest : Bool) → test r ≡ b → list_any test rows ≡ rest → (b || rest) ≡ false → (list_any test rows ≡ false → remove_first test rows ≡ rows) → remove_first test (r ∷ rows) ≡ r ∷ rows
    go true rest is later h again = absurd cc
    go false rest is later h again = rw is (ap (λ l. r ∷ l) (again (later ∙ h)))

any_is_placed : {R : Type 0} (test : R → Bool) (rows : List R) → list_any test rows ≡ nat_lt (position_or_len test rows) (length rows)
any_is_placed test [] = refl
any_is_placed {R} test (r ∷ rows) = go (test r) refl (any_is_placed test rows)
  where
    go : (b : Bool) → test r ≡ b → list_any test rows ≡ nat_lt (position_or_len test rows) (length rows) → list_any test (r ∷ rows) ≡ nat_lt (position_or_len test (r ∷ rows)) (length (r ∷ rows))
    go true is later = rw is (grind (arith, nat_tests))
    go false is later = rw is (later ∙ grind (arith, nat_tests))

any_found : {R : Type 0} (test : R → Bool) (rows : List R) (at : ℕ) → Some at ≡ position test rows → list_any test rows ≡ true
any_found test rows at is = any_is_placed test rows ∙ grind (arith, nat_tests)

any_missed : {R : Type 0} (test : R → Bool) (rows : List R) → ◌≡◌ {A = Option ℕ} None (position test rows) → list_any test rows ≡ false
any_missed test rows is = any_is_placed test rows ∙ grind (arith, nat_tests)

-- ---- puts and drops

pub put_there : {R : Type 0} (test past : R → Bool) (row : R) (rows : List R) (at : ℕ) → Some at ≡ position test rows
    → set rows at row ≡ cond (list_any test rows) (replace_first test row rows) (insert_before past row rows)
put_there test past row rows at is = rw (any_found test rows at is, place_found test rows at is) (replaced test row rows)

pub put_new : {R : Type 0} (test past : R → Bool) (row : R) (rows : List R) → ◌≡◌ {A = Option ℕ} None (position test rows)
    → insert_before past row rows ≡ cond (list_any test rows) (replace_first test row rows) (insert_before past row rows)
put_new test past row rows is = rw (any_missed test rows is) refl

pub dropped_there : {R : Type 0} (test : R → Bool) (rows : List R) (at : ℕ) → Some at ≡ position test rows → remove rows at ≡ remove_first test rows
dropped_there test rows at is = rw (place_found test rows at is) (removed test rows)

pub dropped_nowhere : {R : Type 0} (test : R → Bool) (rows : List R) → ◌≡◌ {A = Option ℕ} None (position test rows) → rows ≡ remove_first test rows
dropped_nowhere test rows is = sym (unchanged test rows (any_missed test rows is))

-- ---- one change after the other

pub applied-push : (changes : List Change) (change : Change) (t : Tables) → applied (changes ++ change ∷ []) t ≡ changed (applied changes t) change
applied-push [] change t = refl
applied-push (c ∷ changes) change t = applied-push changes change (changed t c)

pub one_longer : (change : Change) (changes : List Change) → length (change ∷ changes) ≡ length changes + 1
one_longer change changes = omega arith
