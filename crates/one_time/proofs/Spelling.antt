-- What base32 texts spell.
use Rattle.std.proofs.Common.{◌≡◌, ℕ, zero, suc, ◌-◌, ◌*◌, ◌/◌, ◌%◌, ◌^◌, List, [], ◌∷◌, ◌++◌, Option, Some, None, Ok, Err, length, map, refl, sym, ap, ◌∙◌, rules, arith}
use Rattle.std.specs.Prelude.{IsOk}
use Rattle.std.proofs.lemmas.List.{map-append}
use Rattle.std.specs.Int.{div_ceil}
use Rattle.std.specs.Int.Digits.{number_from_digits}
use Rattle.one_time.specs.Base32.{base32_bytes, base32_letters, byte_digits, digits_of, fault_of, spelled, letter_of, letters_bytes, without_fill}
use Rattle.one_time.specs.declared.base32.Base32Fault.{Base32Fault}

-- a text with a fault
pub faulty : (text letters : List ℕ) (found : Option Base32Fault) (fault : Base32Fault) → letters ≡ without_fill text
    → found ≡ fault_of letters → found ≡ Some fault → base32_bytes text ≡ Err fault
unfolding base32_bytes
faulty text letters found fault front told some =
    ap (spelled (without_fill text)) (sym (ap fault_of front) ∙ sym told ∙ some)

-- a text without one
pub sound : (text letters bytes : List ℕ) (found : Option Base32Fault) → letters ≡ without_fill text
    → found ≡ fault_of letters → found ≡ None → bytes ≡ letters_bytes letters → base32_bytes text ≡ Ok bytes
unfolding base32_bytes
sound text letters bytes found front told none made =
    ap (spelled (without_fill text)) (sym (ap fault_of front) ∙ sym told ∙ none)
    ∙ ap Ok (sym (made ∙ ap letters_bytes front))

pub sound_text : (text letters : List ℕ) (found : Option Base32Fault) → letters ≡ without_fill text
    → found ≡ fault_of letters → found ≡ None → IsOk (base32_bytes text)
sound_text text letters found front told none =
    rw (sound text letters (letters_bytes letters) found front told none refl) (search rules)

-- the letters of five-bit digits are those of digits below 32
same_letters : (k n : ℕ) → map (λ digit. letter_of (digit % 32)) (digits_of 5 k n) ≡ map letter_of (digits_of 5 k n)
unfolding digits_of
same_letters zero n = refl
same_letters (suc k) n =
    let again : n % 2 ^ 5 % 32 ≡ n % 2 ^ 5 = omega arith in
    map-append (λ digit. letter_of (digit % 32)) (digits_of 5 k (n / 2 ^ 5)) (n % 2 ^ 5 ∷ [])
    ∙ ap (λ (l : List ℕ). l ++ letter_of (n % 2 ^ 5 % 32) ∷ []) (same_letters k (n / 2 ^ 5))
    ∙ ap (λ d. map letter_of (digits_of 5 k (n / 2 ^ 5)) ++ letter_of d ∷ []) again
    ∙ sym (map-append letter_of (digits_of 5 k (n / 2 ^ 5)) (n % 2 ^ 5 ∷ []))

-- the text is that of the bytes
pub text_made : (bytes digits text : List ℕ)
    → digits ≡ digits_of 5 (div_ceil (8 * length bytes) 5) (number_from_digits (2 ^ 8) bytes * 2 ^ (5 * div_ceil (8 * length bytes) 5 - 8 * length bytes))
    → text ≡ map (λ digit. letter_of (digit % 32)) digits → text ≡ base32_letters bytes
unfolding base32_letters byte_digits
text_made bytes digits text made lettered =
    lettered ∙ ap (map (λ digit. letter_of (digit % 32))) made
    ∙ same_letters (div_ceil (8 * length bytes) 5) (number_from_digits (2 ^ 8) bytes * 2 ^ (5 * div_ceil (8 * length bytes) 5 - 8 * length bytes))
