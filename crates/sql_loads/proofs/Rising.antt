-- Lists whose keys rise.
use Rattle.std.proofs.Common.{◌≡◌, ◌<◌, ◌+◌, ℕ, zero, suc, Bool, false, List, [], ◌∷◌, length, get_or, Ordering, Less, Equal, Greater, refl, sym, ap, subst, ◌∙◌, true≢false, arith, IsPermutation}
use Rattle.std.specs.Cmp.{IsTotalOrder}
use Rattle.std.specs.Ordering.{is_eq, is_lt, ordering_reverse}
use Rattle.std.specs.Prelude.{IsSortedByKey}
use Rattle.std.specs.List.{IsDistinct}
use Rattle.std.proofs.lemmas.List.Sorted.{IsPermutation-sym}
use Rattle.std.proofs.lemmas.Map.Keys.{IsDistinct-IsPermutation}
use Rattle.sqlite_trees.specs.Tree.{IsAscending}
use Rattle.sqlite_trees.proofs.ListLemmas.{ascending_weaker}
use Rattle.sqlite_rules.proofs.ListLemmas.{all_has, all_from}
use Rattle.sql_base.specs.Ready.{AreApart}
use Rattle.sql_base.proofs.TellLemmas.{IsRising}
use Rattle.sql_sessions.proofs.Apart.{turned}
use Rattle.sql_loads.specs.Read.{Rises}

to_distinct : {X : Type 0} (e : X → X → Bool) (xs : List X) → IsAscending (λ a b. e a b ≡ false) xs → IsDistinct e xs
unfolding IsDistinct
to_distinct e [] up = tt
to_distinct e (x ∷ xs) up = (up.0, to_distinct e xs up.1)

from_distinct : {X : Type 0} (e : X → X → Bool) (xs : List X) → IsDistinct e xs → IsAscending (λ a b. e a b ≡ false) xs
unfolding IsDistinct
from_distinct e [] up = tt
from_distinct e (x ∷ xs) up = (up.0, from_distinct e xs up.1)

-- what holds of each and each later one holds of each and the next
next_to : {X : Type 0} (P : X → X → Type 0) (xs : List X) → IsAscending P xs → (k : ℕ) (d : X) → k + 1 < length xs → P (get_or xs k d) (get_or xs (k + 1) d)
next_to P [] up k d within = absurd (omega arith)
next_to P (x ∷ []) up k d within = absurd (omega arith)
next_to P (x ∷ y ∷ xs) up zero d within = up.0.0
next_to P (x ∷ y ∷ xs) up (suc k) d within =
    let one : suc k + 1 ≡ suc (k + 1) = omega arith in
    subst (λ n. P (get_or (y ∷ xs) k d) (get_or (x ∷ y ∷ xs) n d)) (sym one) (next_to P (y ∷ xs) up.1 k d (omega (arith, within)))

module _ {R K : Type 0} {cmp : K → K → Ordering} (total : IsTotalOrder cmp) (key : R → K) where
  -- keys that differ stay so when the rows change places
  pub apart_permuted : (xs ys : List R) → IsPermutation xs ys → AreApart cmp key ys → AreApart cmp key xs
  apart_permuted xs ys same apart =
      let e = λ (a b : R). is_eq (cmp (key a) (key b)) in
      from_distinct e xs (IsDistinct-IsPermutation e (λ x y. turned total key (key x) (key y)) ys xs (IsPermutation-sym xs ys same) (to_distinct e ys apart))

  -- each row with a lower key than the next
  pub rising_from_next : (xs : List R) → Rises cmp key xs → IsRising cmp key xs
  rising_from_next [] next = tt
  rising_from_next (x ∷ []) next = (tt, tt)
  rising_from_next (x ∷ y ∷ xs) next =
      let first : cmp (key x) (key y) ≡ Less = next 0 x (omega arith) in
      let later = rising_from_next (y ∷ xs) (λ k d within.
      let one : suc k + 1 ≡ suc (k + 1) = omega arith in
      subst (λ n. cmp (key (get_or (y ∷ xs) k d)) (key (get_or (x ∷ y ∷ xs) n d)) ≡ Less) one (next (suc k) d (omega (arith, within)))) in
      ((first, all_from _ xs (λ z h. total.trans (key x) (key y) (key z) first (all_has _ xs z later.0 h))), later)

  pub apart_from_rising : (xs : List R) → IsRising cmp key xs → AreApart cmp key xs
  apart_from_rising = ascending_weaker _ _ (λ a b below. ap is_eq below)

  below : (o : Ordering) → is_lt (ordering_reverse o) ≡ false → is_eq o ≡ false → o ≡ Less
  below Less low other = refl
  below Equal low other = absurd (true≢false other)
  below Greater low other = absurd (true≢false low)

  -- sorted keys that differ rise
  pub rises_sorted : (xs : List R) → IsSortedByKey key cmp xs → AreApart cmp key xs → Rises cmp key xs
  rises_sorted xs sorted apart k d within =
      let first = get_or xs k d in
      let next = get_or xs (k + 1) d in
      below (cmp (key first) (key next)) (ap is_lt (sym (total.antisymm (key next) (key first))) ∙ sorted k d (omega arith) within)
      (next_to (λ a b. is_eq (cmp (key a) (key b)) ≡ false) xs apart k d within)
