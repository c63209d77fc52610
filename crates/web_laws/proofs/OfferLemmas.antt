-- What the page of an action offers is plain.
use Rattle.std.proofs.Common.{◌≡◌, ℕ, zero, suc, ◌-◌, ◌*◌, ◌/◌, ◌%◌, ◌^◌, ◌<◌, true, List, [], ◌∷◌, ◌++◌, map, take, length, refl, arith}
use Rattle.std.specs.Int.{div_ceil}
use Rattle.std.specs.Int.Digits.{number_from_digits}
use Rattle.std.specs.List.{list_all, range_with_len}
use Rattle.std.proofs.lemmas.Bool.Decides.{nat_tests}
use Rattle.std.proofs.lemmas.List.{map-append}
use Rattle.sha2.specs.Sha256.{sha256}
use Rattle.one_time.specs.Base32.{digits_of, letter_of, byte_digits, base32_letters}
use Rattle.realm_data.specs.declared.action.Action.{Action}
use Rattle.realm_data.specs.declared.action.Action.TheVariants as actions
use Rattle.offers.specs.Offers.{offered_key, offered_code, offered_codes, shown_for}
use Rattle.web_laws.specs.Plain.{is_plain, is_plain_text}
use Rattle.web_laws.proofs.PlainLemmas.{IsPlain, and_first, and_second, both, plain_append}

letter : (d : ℕ) → d < 32 → is_plain (letter_of d) ≡ true
letter d lt = grind (arith, nat_tests)

letters : (k n : ℕ) → IsPlain (map letter_of (digits_of 5 k n))
unfolding digits_of
letters zero n = refl
letters (suc k) n = rw map-append (plain_append (map letter_of (digits_of 5 k (n / 2 ^ 5))) (letter_of (n % 2 ^ 5) ∷ []) (letters k (n / 2 ^ 5)) (both (is_plain (letter_of (n % 2 ^ 5))) true (letter (n % 2 ^ 5) (omega arith)) refl))

base32_plain : (bytes : List ℕ) → IsPlain (base32_letters bytes)
unfolding base32_letters byte_digits
base32_plain bytes = letters (div_ceil (8 * length bytes) 5) (number_from_digits (2 ^ 8) bytes * 2 ^ (5 * div_ceil (8 * length bytes) 5 - 8 * length bytes))

front : (k : ℕ) (text : List ℕ) → IsPlain text → IsPlain (take k text)
front zero text e = refl
front (suc k) [] e = refl
front (suc k) (b ∷ text) e = both (is_plain b) (is_plain_text (take k text)) (and_first (is_plain b) (is_plain_text text) e) (front k text (and_second (is_plain b) (is_plain_text text) e))

code_plain : (offer : List ℕ) (number : ℕ) → IsPlain (offered_code offer number)
unfolding offered_code
code_plain offer number = front 12 (base32_letters (sha256 (offer ++ number ∷ []))) (base32_plain (sha256 (offer ++ number ∷ [])))

codes_plain : (offer numbers : List ℕ) → list_all is_plain_text (map (offered_code offer) numbers) ≡ true
codes_plain offer [] = refl
codes_plain offer (number ∷ numbers) = both (is_plain_text (offered_code offer number)) (list_all is_plain_text (map (offered_code offer) numbers)) (code_plain offer number) (codes_plain offer numbers)

pub shown_for_plain : (action : Action) (offer : List ℕ) (count : ℕ) → list_all is_plain_text (shown_for action offer count) ≡ true
unfolding offered_codes
shown_for_plain actions.Terms offer count = refl
shown_for_plain actions.VerifyEmail offer count = refl
shown_for_plain actions.UpdatePassword offer count = refl
shown_for_plain actions.ConfigureOtp offer count = both (is_plain_text (base32_letters (offered_key offer))) true (base32_plain (offered_key offer)) refl
shown_for_plain actions.RecoveryCodes offer count = codes_plain offer (range_with_len 1 count)
