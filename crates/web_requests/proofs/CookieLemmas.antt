-- What the first item says that says anything, as a loop finds it.
use Rattle.std.proofs.Common.{◌≡◌, ℕ, suc, ◌+◌, ◌<◌, Bool, true, false, List, [], ◌∷◌, length, get_or, drop, drop-cons, add-one, Some, None, refl, sym, ap, ◌∙◌, arith}
use Rattle.std.specs.Prelude.{Option, map}
use Rattle.std.specs.Option.{is_some}
use Rattle.std.proofs.lemmas.Bool.{false≢true}
use Rattle.web_requests.specs.Cookies.{or_next, first_some}

taken : {A : Type 0} (r next : Option A) → is_some r ≡ true → or_next r next ≡ r
taken (Some x) next e = refl
taken None next e = absurd (false≢true e)

passed : {A : Type 0} (r next : Option A) → is_some r ≡ false → or_next r next ≡ next
passed (Some x) next e = absurd (false≢true (sym e))
passed None next e = refl

module _ {A B C : Type 0} (says : A → Option B) (text : C → A) where
  step : (items : List C) (i : ℕ) (d : C) → i < length items → first_some says (map text (drop i items)) ≡ or_next (says (text (get_or items i d))) (first_some says (map text (drop (i + 1) items)))
  unfolding first_some
  step items i d lt = rw (drop-cons items i d, add-one) refl

  -- the item at this place says it
  pub found : (items : List C) (i : ℕ) (d : C) (r total : Option B) → i < length items → r ≡ says (text (get_or items i d)) → is_some r ≡ true → first_some says (map text (drop i items)) ≡ total → r ≡ total
  found items i d r total lt is some so_far =
      sym (taken r (first_some says (map text (drop (i + 1) items))) some) ∙ ap (λ s. or_next s (first_some says (map text (drop (i + 1) items)))) is ∙ sym (step items i d lt) ∙ so_far

  -- it says nothing
  pub goes_on : (items : List C) (i : ℕ) (d : C) (r total : Option B) → i < length items → r ≡ says (text (get_or items i d)) → is_some r ≡ false → first_some says (map text (drop i items)) ≡ total → first_some says (map text (drop (i + 1) items)) ≡ total
  goes_on items i d r total lt is none so_far =
      sym (passed r (first_some says (map text (drop (i + 1) items))) none) ∙ ap (λ s. or_next s (first_some says (map text (drop (i + 1) items)))) is ∙ sym (step items i d lt) ∙ so_far

  -- no item is left
  pub ends : (items : List C) (i : ℕ) (total : Option B) → drop i items ≡ [] → first_some says (map text (drop i items)) ≡ total → None ≡ total
  unfolding first_some
  ends items i total none so_far =
      let one : first_some says (map text (drop i items)) ≡ None = rw none refl in
      sym one ∙ so_far

-- the same of the items themselves
pub itself : {A B : Type 0} (says : A → Option B) (items : List A) → first_some says (map (λ x. x) items) ≡ first_some says items
unfolding first_some
itself says [] = refl
itself says (x ∷ xs) = ap (or_next (says x)) (itself says xs)
