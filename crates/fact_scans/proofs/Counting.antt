-- Counting up to a limit.
use Rattle.std.proofs.Common.{◌≡◌, ℕ, ◌+◌, ◌-◌, ◌^◌, ◌<◌, ◌≤◌, min, nat_lt, Bool, true, false, ◌||◌, cond, List, [], ◌∷◌, ◌++◌, length, length-append, filter, refl, ap, ◌∙◌, sym, zero-add, arith}
use Rattle.std.specs.Prelude.{fold}
use Rattle.std.specs.List.{list_any}
use Rattle.std.proofs.lemmas.Bool.{lt-ltb}
use Rattle.std.proofs.lemmas.Bool.Decides.{nat_tests}
use Rattle.fact_scans.specs.Capped.{one_more}

counted_one : {X : Type 0} (most : ℕ) (is : Bool) (x : X) (rest : List X) (n m : ℕ) → n ≤ most
    → m ≡ min (one_more most is n + length rest) most → m ≡ min (n + length (cond is (x ∷ rest) rest)) most
counted_one most true x rest n m fits h = omega (arith, h)
counted_one most false x rest n m fits h = h

stays : (most : ℕ) (is : Bool) (n : ℕ) → n ≤ most → one_more most is n ≤ most
stays most true n fits = omega arith
stays most false n fits = fits

module _ {X : Type 0} (most : ℕ) (test : X → Bool) where
  pub counted_from : (n : ℕ) (xs : List X) → n ≤ most
      → fold (λ (m : ℕ) (x : X). one_more most (test x) m) n xs ≡ min (n + length (filter test xs)) most
  counted_from n [] fits = omega arith
  counted_from n (x ∷ xs) fits =
      let rest = counted_from (one_more most (test x) n) xs (stays most (test x) n fits) in
      counted_one most (test x) x (filter test xs) n _ fits rest

  -- so the count that may stand still tells whether they are fewer
  pub fewer_by_count : (xs : List X) (n : ℕ) → n ≡ fold (λ (m : ℕ) (x : X). one_more most (test x) m) 0 xs
      → nat_lt n most ≡ nat_lt (length (filter test xs)) most
  fewer_by_count xs n is =
      let count : n ≡ min (length (filter test xs)) most =
      is ∙ counted_from 0 xs (omega arith) ∙ ap (λ (m : ℕ). min m most) (zero-add (length (filter test xs))) in
      below n (length (filter test xs)) count
    where
      below : (n all : ℕ) → n ≡ min all most → nat_lt n most ≡ nat_lt all most
      below n all is = grind (arith, nat_tests)

-- some pass a test where they are counted
pub any_counted : {X : Type 0} (test : X → Bool) (xs : List X) → nat_lt 0 (length (filter test xs)) ≡ list_any test xs
any_counted test [] = refl
any_counted test (x ∷ xs) = either (test x) x (filter test xs) (list_any test xs) (any_counted test xs)
  where
    either : {X : Type 0} (is : Bool) (x : X) (rest : List X) (any : Bool) → nat_lt 0 (length rest) ≡ any
        → nat_lt 0 (length (cond is (x ∷ rest) rest)) ≡ (is || any)
    either true x rest any h = grind (arith, nat_tests)
    either false x rest any h = h

-- ---- short lists

pub few_pass : {X : Type 0} (test : X → Bool) (xs : List X) → length (filter test xs) ≤ length xs
few_pass test [] = omega arith
few_pass test (x ∷ xs) = no_more (test x) x (filter test xs) xs (few_pass test xs)
  where
    no_more : {X : Type 0} (is : Bool) (x : X) (some all : List X) → length some ≤ length all
        → length (cond is (x ∷ some) some) ≤ length (x ∷ all)
    no_more true x some all h = omega (arith, h)
    no_more false x some all h = omega (arith, h)

-- a list whose parts are together shorter than a limit
pub short_length : {X : Type 0} (xs old more : List X) (total most : ℕ) → xs ≡ old ++ more
    → total ≡ min (length old + length more) (2 ^ 64 - 1) → total < most → most ≤ 2 ^ 64 - 1 → length xs < most
short_length xs old more total most is sum less fits =
    let all : length xs ≡ length old + length more = ap length is ∙ length-append old more in
    omega (arith, all, sum, less, fits)

-- it has fewer that pass a test
pub fewer_by_length : {X : Type 0} (test : X → Bool) (xs : List X) (most : ℕ) → length xs < most
    → true ≡ nat_lt (length (filter test xs)) most
fewer_by_length test xs most short = let few = few_pass test xs in sym (lt-ltb _ _ (omega (arith, few, short)))
