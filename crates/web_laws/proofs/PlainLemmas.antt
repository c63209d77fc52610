-- Texts of plain bytes: names, ids and numbers.
use Rattle.std.proofs.Common.{◌≡◌, ℕ, zero, suc, ◌/◌, ◌%◌, ◌*◌, ◌^◌, ◌<◌, ◌==◌, ◌&&◌, Bool, true, false, cond, List, [], ◌∷◌, ◌++◌, refl, arith}
use Rattle.std.specs.Prelude.{decimal, nat_le, length}
use Rattle.std.specs.Fmt.{digits, digits_onto, digit_glyph}
use Rattle.std.specs.List.{list_all}
use Rattle.std.proofs.lemmas.Bool.{false≢true}
use Rattle.std.proofs.lemmas.Bool.Decides.{nat_tests}
use Rattle.std.proofs.lemmas.List.Folds.{list_all-append}
use Rattle.login_base.specs.IdText.{hex_digit, hex_text, id_bytes}
use Rattle.login_base.specs.Names.{is_name, is_name_byte, is_first_byte}
use Rattle.login_base.specs.declared.id.Id.{Id}
use Rattle.web_laws.specs.Plain.{is_plain, is_plain_text}

abbrev pub IsPlain : List ℕ → Type 0
IsPlain text = is_plain_text text ≡ true

pub and_first : (a b : Bool) → (a && b) ≡ true → a ≡ true
and_first true b e = refl
and_first false b e = absurd (false≢true e)

pub and_second : (a b : Bool) → (a && b) ≡ true → b ≡ true
and_second true b e = e
and_second false b e = absurd (false≢true e)

pub both : (a b : Bool) → a ≡ true → b ≡ true → (a && b) ≡ true
both a b p q = rw (p, q) refl

pub plain_append : (a b : List ℕ) → IsPlain a → IsPlain b → IsPlain (a ++ b)
plain_append a b p q = rw (list_all-append is_plain a b, p, q) refl

-- a text, a label and a value
pub labelled : (a label value : List ℕ) → IsPlain a → IsPlain label → IsPlain value → IsPlain (a ++ label ++ value)
labelled a label value p q r = plain_append (a ++ label) value (plain_append a label p q) r

-- ---- names

name_byte : (b : ℕ) → is_name_byte b ≡ true → is_plain b ≡ true
name_byte b e = grind (arith, nat_tests)

name_bytes : (text : List ℕ) → list_all is_name_byte text ≡ true → IsPlain text
name_bytes [] e = refl
name_bytes (b ∷ text) e = both (is_plain b) (is_plain_text text) (name_byte b (and_first (is_name_byte b) (list_all is_name_byte text) e)) (name_bytes text (and_second (is_name_byte b) (list_all is_name_byte text) e))

pub plain_name : (text : List ℕ) → is_name text ≡ true → IsPlain text
plain_name [] e = refl
plain_name (b ∷ text) e = name_bytes (b ∷ text) (and_second (nat_le (length (b ∷ text)) 64 && is_first_byte b) (list_all is_name_byte (b ∷ text)) e)

-- ---- ids

digit : (d : ℕ) → d < 16 → is_plain (hex_digit d) ≡ true
digit d lt = grind (arith, nat_tests)

hex : (k n : ℕ) → IsPlain (hex_text k n)
unfolding hex_text
hex zero n = refl
hex (suc k) n = both (is_plain (hex_digit (n / 2 ^ (4 * k) % 16))) (is_plain_text (hex_text k n)) (digit (n / 2 ^ (4 * k) % 16) (omega arith)) (hex k n)

pub plain_id : (i : Id) → IsPlain (id_bytes i)
unfolding id_bytes
plain_id i = plain_append (hex_text 16 i.serial) (46 ∷ (hex_text 16 i.high ++ hex_text 16 i.low)) (hex 16 i.serial) (plain_append (hex_text 16 i.high) (hex_text 16 i.low) (hex 16 i.high) (hex 16 i.low))

-- ---- numbers

glyph : (d : ℕ) → d < 10 → is_plain (digit_glyph false d) ≡ true
glyph d lt = grind (arith, nat_tests)

either : (r : Bool) (a b : List ℕ) → IsPlain a → IsPlain b → IsPlain (cond r a b)
either true a b p q = p
either false a b p q = q

onto : (k n : ℕ) (rest : List ℕ) → IsPlain rest → IsPlain (digits_onto k 10 false n rest)
onto zero n rest p = p
onto (suc k) n rest p =
    let d = digit_glyph false (n % 10) in
    let more : IsPlain (d ∷ rest) = both (is_plain d) (is_plain_text rest) (glyph (n % 10) (omega arith)) p in
    either (n / 10 == 0) (d ∷ rest) (digits_onto k 10 false (n / 10) (d ∷ rest)) more (onto k (n / 10) (d ∷ rest) more)

pub plain_number : (n : ℕ) → IsPlain (decimal n)
unfolding digits
plain_number n = onto 64 n [] refl
