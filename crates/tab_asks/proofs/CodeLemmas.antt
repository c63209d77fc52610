-- A recovery code that fits has a number.
use Rattle.std.proofs.Common.{◌≡◌, ℕ, ◌+◌, ◌^◌, ◌<◌, Bool, true, false, ◌&&◌, List, [], ◌∷◌, Option, Some, None, nat_lt, length, if◌then◌else◌, refl}
use Rattle.std.specs.List.{find}
use Rattle.std.specs.Option.{option_to_list}
use Rattle.std.proofs.lemmas.Bool.{and_parts, ltb-true}
use Rattle.one_time.specs.Verdicts.{verdict_from, recovery_verdict}
use Rattle.tab_asks.specs.Codes.{HasNumber}

others : (found : Option ℕ) → HasNumber (verdict_from None found)
others None = tt
others (Some number) = tt

of_next : (small : Bool) (number : ℕ) (fits : ℕ → Bool) (found : Option ℕ) → (small ≡ true → number < 2 ^ 32)
    → HasNumber (verdict_from (find fits (option_to_list (if small then Some number else None))) found)
of_next false number fits found bound = others found
of_next true number fits found bound = by_fit (fits number) refl where
  by_fit : (b : Bool) → fits number ≡ b → HasNumber (verdict_from (find fits (number ∷ [])) found)
  by_fit true h = rw h (bound refl)
  by_fit false h = rw h (others found)

pub has_number : (digests : List (List ℕ)) (spent : ℕ) (value : List ℕ) → HasNumber (recovery_verdict digests spent value)
unfolding recovery_verdict
has_number digests spent value =
    of_next (nat_lt spent (length digests) && nat_lt (spent + 1) (2 ^ 32)) (spent + 1) _ _
    (λ h. ltb-true (spent + 1) (2 ^ 32) (and_parts (nat_lt spent (length digests)) (nat_lt (spent + 1) (2 ^ 32)) h).1)
