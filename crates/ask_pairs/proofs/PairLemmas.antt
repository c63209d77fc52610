-- Pairs that have a name.
use Rattle.std.proofs.Common.{◌≡◌, ℕ, zero, suc, ◌+◌, ◌-◌, ◌<◌, Bool, true, false, List, [], ◌∷◌, length, get_or, take, drop, add-one, Some, None, refl, sym, ap, ◌∙◌, arith}
use Rattle.std.specs.Prelude.{filter}
use Rattle.std.specs.List.{list_any}
use Rattle.std.proofs.lemmas.Bool.{false≢true}
use Rattle.std.proofs.lemmas.List.{take_rest}
use Rattle.ask_pairs.specs.declared.pairs.Pair.{Pair}
use Rattle.ask_pairs.specs.Pairs.{only_value}

module _ (p : Pair → Bool) where
  fails : (pair : Pair) (pairs : List Pair) → p pair ≡ false → filter p (pair ∷ pairs) ≡ filter p pairs
  fails pair pairs e = rw e refl

  passes : (pair : Pair) (pairs : List Pair) → p pair ≡ true → filter p (pair ∷ pairs) ≡ pair ∷ filter p pairs
  passes pair pairs e = rw e refl

  pub filter-none : (pairs : List Pair) → ((k : ℕ) (d : Pair) → k < length pairs → p (get_or pairs k d) ≡ false) → filter p pairs ≡ []
  filter-none [] none = refl
  filter-none (pair ∷ pairs) none = fails pair pairs (none zero pair (omega arith)) ∙ filter-none pairs (λ k d lt. none (suc k) d (omega arith))

  -- the first that passes
  pub filter-first : (pairs : List Pair) (i : ℕ) (d : Pair) → i < length pairs → ((k : ℕ) → k < i → p (get_or pairs k d) ≡ false) → p (get_or pairs i d) ≡ true
      → filter p pairs ≡ get_or pairs i d ∷ filter p (drop (suc i) pairs)
  filter-first [] i d lt fail pass = absurd (omega arith)
  filter-first (pair ∷ pairs) zero d lt fail pass = passes pair pairs pass
  filter-first (pair ∷ pairs) (suc i) d lt fail pass = fails pair pairs (fail zero (omega arith)) ∙ filter-first pairs i d (omega arith) (λ k h. fail (suc k) (omega arith)) pass

  -- with another that passes there is no only one
  pub not_only : (first : Pair) (pairs : List Pair) → list_any p pairs ≡ true → only_value (first ∷ filter p pairs) ≡ None
  not_only first [] any = absurd (false≢true any)
  not_only first (pair ∷ pairs) any = by (not_only first pairs) (p pair) refl
    where
      by : (list_any p pairs ≡ true → only_value (first ∷ filter p pairs) ≡ None) → (b : Bool) → p pair ≡ b → only_value (first ∷ filter p (pair ∷ pairs)) ≡ None
      by rest true e = ap (λ l. only_value (first ∷ l)) (passes pair pairs e)
      by rest false e = ap (λ l. only_value (first ∷ l)) (fails pair pairs e) ∙ rest (rw e at any)

  pub only : (first : Pair) (pairs : List Pair) → list_any p pairs ≡ false → only_value (first ∷ filter p pairs) ≡ Some first.value
  only first [] any = refl
  only first (pair ∷ pairs) any = by (only first pairs) (p pair) refl
    where
      by : (list_any p pairs ≡ false → only_value (first ∷ filter p pairs) ≡ Some first.value) → (b : Bool) → p pair ≡ b → only_value (first ∷ filter p (pair ∷ pairs)) ≡ Some first.value
      by rest true e = absurd (false≢true (sym (rw e at any)))
      by rest false e = ap (λ l. only_value (first ∷ l)) (fails pair pairs e) ∙ rest (rw e at any)

  -- what stands behind a place, as a range of a slice has it
  behind : (pairs : List Pair) (i : ℕ) → take (length pairs - (i + 1)) (drop (i + 1) pairs) ≡ drop (suc i) pairs
  behind pairs i = take_rest pairs (i + 1) ∙ rw add-one refl

  module _ (pairs : List Pair) (i : ℕ) (d : Pair) (within : i < length pairs) (before : (k : ℕ) → k < i → p (get_or pairs k d) ≡ false) (at : p (get_or pairs i d) ≡ true) where
    pub doubled : list_any p (take (length pairs - (i + 1)) (drop (i + 1) pairs)) ≡ true → only_value (filter p pairs) ≡ None
    doubled any = ap only_value (filter-first pairs i d within before at) ∙ not_only (get_or pairs i d) (drop (suc i) pairs) (rw (behind pairs i) at any)

    pub once : list_any p (take (length pairs - (i + 1)) (drop (i + 1) pairs)) ≡ false → only_value (filter p pairs) ≡ Some (get_or pairs i d).value
    once any = ap only_value (filter-first pairs i d within before at) ∙ only (get_or pairs i d) (drop (suc i) pairs) (rw (behind pairs i) at any)
