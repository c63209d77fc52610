-- Decimal texts: how they begin, what `parse` reads in them, and the one number of each.
use Rattle.std.proofs.Common.{◌≡◌, ◌≢◌, ℕ, zero, suc, ◌^◌, ◌<◌, ◌≤◌, Bool, true, false, cond, List, [], ◌∷◌, length, get_or, Some, None, Ok, Err, refl, sym, ap, subst, ◌∙◌, arith}
use Rattle.std.specs.Prelude.{Option, Result, IfSome, decimal, nat_le, ◌&&◌}
use Rattle.std.specs.Result.{result_ok}
use Rattle.std.specs.Str.{IsUtf8, bytes_eq}
use Rattle.std.specs.Result.{OkIff}
use Rattle.std.specs.Str.Parse.{AllDigits, digits_value, ParsesUnsigned}
use Rattle.std.proofs.lemmas.Bool.{false≢true}
use Rattle.std.proofs.lemmas.Bool.Decides.{nat_tests}
use Rattle.std.proofs.lemmas.Fmt.{decimal_is_IsNumeral, decimal-digits_value, decimal_digit, decimal_nonempty, first_decimal, IsAscii-decimal}
use Rattle.std.proofs.lemmas.Slice.Eq.{bytes_eq-Decides}
use Rattle.std.proofs.lemmas.Str.{IsUtf8-from_ascii}
use Rattle.std.proofs.lemmas.Str.Parse.{digit_from_value, numerals_by_value, tells_digits, parse_plain}
use Rattle.decimal_text.specs.Numbers.{starts_number, number}

-- no leading zero but in `0`
lead-decimal : (n : ℕ) → n < 2 ^ 64 → get_or (decimal n) 0 0 ≡ 48 → length (decimal n) ≡ 1
lead-decimal zero h e = ap length (decimal_digit 0 (omega arith))
lead-decimal (suc n) h e = absurd (omega (arith, first_decimal (suc n) (omega arith) h))

starts-digits : (ds : List ℕ) → AllDigits 10 ds → 0 < length ds → (get_or ds 0 0 ≡ 48 → length ds ≡ 1) → starts_number ds ≡ true
starts-digits [] d some lead = absurd (omega arith)
starts-digits (c ∷ cs) d some lead = let k = digit_from_value c d.0 in grind (arith, nat_tests)

pub starts-decimal : (n : ℕ) → n < 2 ^ 64 → starts_number (decimal n) ≡ true
starts-decimal n h = starts-digits (decimal n) (decimal_is_IsNumeral n h).0.1 (decimal_nonempty n h) (lead-decimal n h)

-- a text that starts so has no plus, and no leading zero
no_plus : (text : List ℕ) → starts_number text ≡ true → get_or text 0 0 ≢ 43
no_plus [] s e = absurd (false≢true s)
no_plus (c ∷ cs) s e = grind (arith, nat_tests)

no_zero : (text : List ℕ) → starts_number text ≡ true → get_or text 0 0 ≡ 48 → length text ≡ 1
no_zero [] s e = absurd (false≢true s)
no_zero (c ∷ cs) s e = grind (arith, nat_tests)

-- what was read in a text that starts so has this text
plain_text : {E : Type 0} (text : List ℕ) (r : Result ℕ E) → starts_number text ≡ true → OkIff r (AllDigits 10 text × (0 < length text) × (digits_value 10 text < 2 ^ 64)) (digits_value 10 text) → IfSome (result_ok r) (λ n. text ≡ decimal n)
plain_text text (Ok n) s h =
    let own = numerals_by_value (AllDigits 10) tells_digits in
    sym (ap decimal h.1 ∙ decimal-digits_value own text h.0.0 h.0.1 (no_zero text s) h.0.2)
plain_text text (Err e) s h = tt

pub parsed_text : {E : Type 0} (text : List ℕ) (r : Result ℕ E) → starts_number text ≡ true → ParsesUnsigned 64 10 text r → IfSome (result_ok r) (λ n. text ≡ decimal n)
parsed_text text r s h = plain_text text r s (parse_plain (numerals_by_value (AllDigits 10) tells_digits) 64 text r h (no_plus text s))

pub not_utf8 : (n : ℕ) (text : List ℕ) → n < 2 ^ 64 → text ≡ decimal n → ¬ (IsUtf8 text) → ⊥
not_utf8 n text h e unread = unread (subst IsUtf8 (sym e) (IsUtf8-from_ascii (decimal n) (IsAscii-decimal n h)))

-- the test of the definition
tested : (a b : Bool) (n : ℕ) → a ≡ true → b ≡ true → ◌≡◌ {A = Option ℕ} (cond (a && b) (Some n) None) (Some n)
tested true true n p q = refl
tested true false n p q = absurd (false≢true q)
tested false b n p q = absurd (false≢true p)

not_tested : (a b : Bool) (n : ℕ) → (a ≡ true → b ≡ true → ⊥) → ◌≡◌ {A = Option ℕ} (cond (a && b) (Some n) None) None
not_tested true true n never = absurd (never refl refl)
not_tested true false n never = refl
not_tested false b n never = refl

pub number-decimal : (last n : ℕ) (text : List ℕ) → n < 2 ^ 64 → n ≤ last → text ≡ decimal n → number last text ≡ Some n
unfolding number
number-decimal last n text h le e =
    let v : digits_value 10 text ≡ n = ap (digits_value 10) e ∙ (decimal_is_IsNumeral n h).1 in
    rw v (tested (bytes_eq (decimal n) text) (nat_le n last) n ((bytes_eq-Decides (decimal n) text).1 (sym e)) (grind (arith, nat_tests)))

pub number-none : (last : ℕ) (text : List ℕ) → ((n : ℕ) → n ≤ last → text ≢ decimal n) → number last text ≡ None
unfolding number
number-none last text never =
    let n : ℕ = digits_value 10 text in
    not_tested (bytes_eq (decimal n) text) (nat_le n last) n (λ p q. never n (grind (arith, nat_tests)) (sym ((bytes_eq-Decides (decimal n) text).0 p)))
