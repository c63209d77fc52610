-- The calls of a keeper in memory are told while they are below the greatest number.
use Rattle.std.proofs.Common.{◌≡◌, ℕ, ◌+◌, ◌-◌, ◌^◌, ◌<◌, Bool, true, false, cond, List, [], ◌∷◌, ◌++◌, add-one, refl, sym, arith}
use Rattle.std.specs.Prelude.{nat_eq, ◌↔◌, Contains, IsTrue, nat_lt, Some, None, IfSome, IsSomeAnd}
use Rattle.std.specs.List.{list_any}
use Rattle.std.specs.Cmp.{nat_eq_equiv}
use Rattle.std.proofs.lemmas.Bool.{eqb-true, lt-ltb}
use Rattle.std.proofs.lemmas.Bool.Decides.{nat_tests}
use Rattle.std.proofs.lemmas.Map.Views.{Contains-from_any, list_any-from_Contains}
use Rattle.login_base.specs.InMemory.{CallState, FailsNext, called}
use Rattle.login_base.specs.Outside.{counted}
use Rattle.keeper_core.specs.Keeping.{CallsMade, CallsGoOn, made}
use Rattle.keeper_core.specs.InMemory.{failed_up_to, told_calls}

one_more : (failing : List ℕ) (count : ℕ) (failed : Bool) → list_any (nat_eq (count + 1)) failing ≡ failed
    → failed_up_to failing (count + 1) ≡ cond failed (failed_up_to failing count ++ (count + 1) ∷ []) (failed_up_to failing count)
unfolding failed_up_to
one_more failing count failed is =
    let here = rw (add-one count) at is in
    rw (add-one count, here) refl

same_test : (failing : List ℕ) (n : ℕ) (failed : Bool) → IsTrue failed ↔ Contains failing n → list_any (nat_eq n) failing ≡ failed
same_test failing n failed is =
    both (list_any (nat_eq n) failing) failed (Contains-from_any {eq = nat_eq} (λ x y h. eqb-true x y h) n failing) (list_any-from_Contains nat_eq_equiv n failing) is
  where
    both : (b failed : Bool) → (b ≡ true → Contains failing n) → (Contains failing n → b ≡ true) → IsTrue failed ↔ Contains failing n → b ≡ failed
    both true failed p q is = sym (is.1 (p refl))
    both false true p q is = q (is.0 refl)
    both false false p q is = refl

-- a call goes on from those before it
pub goes_on : (old : CallState) (failed : Bool) → IsTrue failed ↔ FailsNext old → CallsGoOn failed (told_calls old) (told_calls (called failed old))
goes_on old failed is = go (nat_lt (counted old.count) (2 ^ 64 - 1)) refl
  where
    next : CallsMade
    next = record { count = counted old.count; failed = failed_up_to old.failing (counted old.count) }

    go : (b : Bool) → nat_lt (counted old.count) (2 ^ 64 - 1) ≡ b → IfSome (cond b (Some next) None) (λ now. IsSomeAnd (told_calls old) (λ before. now ≡ made failed before))
    go false is_told = tt
    go true is_told =
        let less : old.count + 1 < 2 ^ 64 - 1 = grind (arith, nat_tests) in
        let one : counted old.count ≡ old.count + 1 = omega arith in
        let told : nat_lt old.count (2 ^ 64 - 1) ≡ true = lt-ltb _ _ (omega arith) in
        let fails = rw one at is in
        rw (told, one, one_more old.failing old.count failed (same_test old.failing (old.count + 1) failed fails)) refl
