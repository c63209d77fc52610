-- The place of the first item that fails a test.
use Rattle.std.proofs.Common.{◌≡◌, ℕ, ◌<◌, ◌≤◌, Bool, true, false, not, List, [], ◌∷◌, length, get_or, Some, None, refl, ap, sym, ◌∙◌, arith}
use Rattle.std.specs.Prelude.{Option}
use Rattle.std.specs.List.{AllWithin, position_or_len}
use Rattle.std.proofs.lemmas.Bool.Decides.{nat_tests}
use Rattle.std.proofs.lemmas.List.Sums.{position_or_len_is}
use Rattle.keeper_rules.specs.Misfits.{first_failing}

pub fails_first : {A : Type 0} (test : A → Bool) (items : List A) (at : ℕ) → AllWithin (λ item. test item ≡ true) items 0 at → at < length items → (item : A) → item ≡ get_or items at item → test item ≡ false
    → Some at ≡ first_failing test items
fails_first test [] at before within found is fails = absurd (omega arith)
fails_first {A} test (item ∷ items) at before within found is fails =
    let place : position_or_len (λ i. not (test i)) (item ∷ items) ≡ at = position_or_len_is (λ i. not (test i)) (item ∷ items) at found (omega arith) (λ k lt. ap not (before k found (omega arith) lt)) (λ lt. ap (λ i. not (test i)) (sym is) ∙ ap not fails) in
    grind (arith, nat_tests, place)

pub fails_nowhere : {A : Type 0} (test : A → Bool) (items : List A) (at : ℕ) → AllWithin (λ item. test item ≡ true) items 0 at → length items ≤ at → ◌≡◌ {A = Option ℕ} None (first_failing test items)
fails_nowhere test [] at before past = refl
fails_nowhere {A} test (item ∷ items) at before past =
    let place : position_or_len (λ i. not (test i)) (item ∷ items) ≡ length (item ∷ items) = position_or_len_is (λ i. not (test i)) (item ∷ items) (length (item ∷ items)) item (omega arith) (λ k lt. ap not (before k item (omega arith) (omega arith))) (λ lt. absurd (omega arith)) in
    grind (arith, nat_tests, place)
