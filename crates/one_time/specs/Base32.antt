-- Base32 (RFC 4648, section 6), by the number that the bits of a text or of bytes make.
use Rattle.std.specs.Prelude.{◌≡◌, ℕ, zero, suc, ◌+◌, ◌-◌, ◌*◌, ◌/◌, ◌%◌, ◌^◌, Bool, true, false, ◌&&◌, ◌||◌, nat_eq, nat_lt, nat_le, List, [], ◌∷◌, ◌++◌, length, take, map, Option, Some, None, is_none, unwrap_or, Result, Ok, Err, if◌then◌else◌}
use Rattle.std.specs.List.{position, suffix_len}
use Rattle.std.specs.Int.{div_ceil}
use Rattle.std.specs.Int.Digits.{number_from_digits}
use Rattle.one_time.specs.declared.base32.Base32Fault.{Base32Fault}
use Rattle.one_time.specs.declared.base32.Base32Fault.TheVariants.{BadLetter, BadLength}
use Rattle.one_time.specs.declared.regrouped.Regrouped.{Regrouped}

-- the last k digits of a number, each of w bits
unfoldable pub digits_of : ℕ → ℕ → ℕ → List ℕ
digits_of w zero n = []
digits_of w (suc k) n = digits_of w k (n / 2 ^ w) ++ n % 2 ^ w ∷ []

-- `A` to `Z`, then `2` to `7`
abbrev pub letter_of : ℕ → ℕ
letter_of digit = if nat_lt digit 26 then 65 + digit else 24 + digit

-- either case is read
abbrev pub letter_value : ℕ → Option ℕ
letter_value b =
    if nat_le 65 b && nat_le b 90 then Some (b - 65)
    else if nat_le 97 b && nat_le b 122 then Some (b - 97)
    else if nat_le 50 b && nat_le b 55 then Some (b - 24)
    else None

abbrev pub is_fill : ℕ → Bool
is_fill b = nat_eq b 61

-- a text without the `=` at its end
abbrev pub without_fill : List ℕ → List ℕ
without_fill text = take (length text - suffix_len is_fill text) text

-- the bits of bytes, with zeros up to a whole letter, five to a letter
unfoldable pub byte_digits : List ℕ → List ℕ
byte_digits bytes =
    let letters = div_ceil (8 * length bytes) 5 in
    digits_of 5 letters (number_from_digits (2 ^ 8) bytes * 2 ^ (5 * letters - 8 * length bytes))

-- the text of bytes
unfoldable pub base32_letters : List ℕ → List ℕ
base32_letters bytes = map letter_of (byte_digits bytes)

abbrev pub digit_of : ℕ → ℕ
digit_of b = unwrap_or (letter_value b) 0

-- the bytes of letters: their bits, eight to a byte, without those that are left
unfoldable pub letters_bytes : List ℕ → List ℕ
letters_bytes letters =
    let bits = 5 * length letters in
    digits_of 8 (bits / 8) (number_from_digits (2 ^ 5) (map digit_of letters) / 2 ^ (bits % 8))

-- no text of bytes has so many letters
abbrev pub is_bad_length : ℕ → Bool
is_bad_length letters = nat_eq (letters % 8) 1 || nat_eq (letters % 8) 3 || nat_eq (letters % 8) 6

abbrev pub first_bad : List ℕ → Option ℕ
first_bad letters = position (λ b. is_none (letter_value b)) letters

abbrev pub fault_from : Option ℕ → Bool → Option Base32Fault
fault_from (Some at) bad_length = Some (BadLetter at)
fault_from None true = Some BadLength
fault_from None false = None

-- the first byte outside the alphabet is named before the length
abbrev pub fault_of : List ℕ → Option Base32Fault
fault_of letters = fault_from (first_bad letters) (is_bad_length (length letters))

abbrev pub spelled : List ℕ → Option Base32Fault → Result (List ℕ) Base32Fault
spelled letters (Some fault) = Err fault
spelled letters None = Ok (letters_bytes letters)

-- what a text spells
unfoldable pub base32_bytes : List ℕ → Result (List ℕ) Base32Fault
base32_bytes text = spelled (without_fill text) (fault_of (without_fill text))

-- digits of w bits that were handed out, and `count` bits that are held, are the n bits of v
abbrev pub IsRegrouped : ℕ → List ℕ → ℕ → ℕ → ℕ → ℕ → Type 0
IsRegrouped w digits held count v n =
    (digits ≡ digits_of w (length digits) (v / 2 ^ count)) × (held ≡ v % 2 ^ count) × (n ≡ w * length digits + count)

-- what was handed out and what is held are the n bits of v
abbrev pub Holds : ℕ → Regrouped → ℕ → ℕ → Type 0
Holds w bits v n = IsRegrouped w bits.digits.items bits.held bits.count v n

-- the second holds whatever bits the first does
abbrev pub Keeps : ℕ → Regrouped → Regrouped → Type 0
Keeps w before after = (v n : ℕ) → Holds w before v n → Holds w after v n

-- the second holds the bits of the first, and behind them those of a digit of so many bits
abbrev pub TakesIn : ℕ → Regrouped → Regrouped → ℕ → ℕ → Type 0
TakesIn w before after bits digit = (v n : ℕ) → Holds w before v n → Holds w after (v * 2 ^ bits + digit) (n + bits)

-- the digits are all the bits that are held, with zeros up to a whole digit of five bits
abbrev pub AreFilled : Regrouped → List ℕ → Type 0
AreFilled bits digits =
    (v n : ℕ) → Holds 5 bits v n → digits ≡ digits_of 5 (div_ceil n 5) (v * 2 ^ (5 * div_ceil n 5 - n))
