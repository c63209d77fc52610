-- Keys stay apart in whatever order the rows stand.
use Rattle.std.proofs.Common.{◌≡◌, inl, inr, ℕ, ◌+◌, ◌≤◌, true, false, cond, List, [], ◌∷◌, Ordering, Less, Equal, Greater, refl, sym, ap, ◌∙◌, arith, true≢false, IsPermutation}
use Rattle.std.specs.Cmp.{IsTotalOrder}
use Rattle.std.specs.Ordering.{is_eq}
use Rattle.std.specs.List.{sum_by}
use Rattle.std.proofs.lemmas.Bool.{cases_Bool}
use Rattle.std.proofs.lemmas.Cmp.{tied_itself}
use Rattle.std.proofs.lemmas.List.Sorted.{sum_by-IsPermutation}
use Rattle.std.proofs.lemmas.List.Sums.{sum_by-cons}
use Rattle.sqlite_rules.specs.Lists.{Has}
use Rattle.sqlite_rules.proofs.ListLemmas.{all_has, all_from}
use Rattle.sql_base.specs.Ready.{AreApart}

tied_of : (o : Ordering) → is_eq o ≡ true → o ≡ Equal
tied_of Less e = absurd (true≢false (sym e))
tied_of Equal e = refl
tied_of Greater e = absurd (true≢false (sym e))

module _ {R K : Type 0} {cmp : K → K → Ordering} (total : IsTotalOrder cmp) (key : R → K) where
  hit : K → R → ℕ
  hit k x = cond (is_eq (cmp (key x) k)) 1 0

  -- how many rows have this key
  count : K → List R → ℕ
  count k rows = sum_by (hit k) rows

  hit_true : (k : K) (x : R) → is_eq (cmp (key x) k) ≡ true → hit k x ≡ 1
  unfolding hit
  hit_true k x e = rw e refl

  hit_false : (k : K) (x : R) → is_eq (cmp (key x) k) ≡ false → hit k x ≡ 0
  unfolding hit
  hit_false k x e = rw e refl

  one_more : (k : K) (x : R) (rows : List R) → count k (x ∷ rows) ≡ hit k x + count k rows
  unfolding count
  one_more k x rows = sum_by-cons (hit k) x rows

  none : (k : K) (rows : List R) → ((x : R) → Has rows x → is_eq (cmp (key x) k) ≡ false) → count k rows ≡ 0
  unfolding count
  none k [] others = refl
  none k (x ∷ rows) others =
      let first = hit_false k x (others x (inl refl)) in
      let rest = none k rows (λ y h. others y (inr h)) in
      let all = one_more k x rows in
      omega (arith, first, rest, all)

  some : (k : K) (rows : List R) (x : R) → Has rows x → is_eq (cmp (key x) k) ≡ true → 1 ≤ count k rows
  some k [] x h is = absurd h
  some k (y ∷ rows) x (inl same) is =
      let first = hit_true k y (ap (λ z. is_eq (cmp (key z) k)) (sym same) ∙ is) in
      let all = one_more k y rows in
      omega (arith, first, all)
  some k (y ∷ rows) x (inr later) is =
      let rest = some k rows x later is in
      let all = one_more k y rows in
      omega (arith, rest, all)

  at_most_one : (rows : List R) → AreApart cmp key rows → (k : K) → count k rows ≤ 1
  at_most_one [] up k = let empty = none k [] (λ x h. absurd h) in omega (arith, empty)
  at_most_one (x ∷ rows) up k = elim (cases_Bool (is_eq (cmp (key x) k))) [
    | inl is ↦
        let others : (y : R) → Has rows y → is_eq (cmp (key y) k) ≡ false = λ y h. elim (cases_Bool (is_eq (cmp (key y) k))) [
          | inl own ↦
              let one = tied_of (cmp (key x) k) is in
              let two = tied_of (cmp (key y) k) own in
              let both : cmp (key x) (key y) ≡ Equal = total.congr (key x) k (key y) one ∙ sym (total.congr (key y) k (key y) two) ∙ tied_itself total (key y) in
              absurd (true≢false (sym (ap is_eq both) ∙ all_has _ rows y up.0 h))
          | inr differs ↦ differs
        ] in
        let first = hit_true k x is in
        let rest = none k rows others in
        let all = one_more k x rows in
        omega (arith, first, rest, all)
    | inr differs ↦
        let first = hit_false k x differs in
        let rest = at_most_one rows up.1 k in
        let all = one_more k x rows in
        omega (arith, first, rest, all)
  ]

  apart_by_count : (rows : List R) → ((k : K) → count k rows ≤ 1) → AreApart cmp key rows
  apart_by_count [] few = tt
  apart_by_count (y ∷ rows) few = (
    all_from _ rows (λ z h. elim (cases_Bool (is_eq (cmp (key y) (key z)))) [
      | inl is ↦
          let first = hit_true (key z) y is in
          let rest = some (key z) rows z h (ap is_eq (tied_itself total (key z))) in
          let all = one_more (key z) y rows in
          let most = few (key z) in
          absurd (omega (arith, first, rest, all, most))
      | inr differs ↦ differs
    ]),
    apart_by_count rows (λ k. let all = one_more k y rows in let most = few k in omega (arith, all, most)),
  )

  pub apart_permuted : (xs ys : List R) → IsPermutation xs ys → AreApart cmp key xs → AreApart cmp key ys
  unfolding count
  apart_permuted xs ys same apart = apart_by_count ys (λ k. let all = sum_by-IsPermutation (hit k) xs ys same in let most = at_most_one xs apart k in omega (arith, all, most))
