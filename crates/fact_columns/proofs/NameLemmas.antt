-- Names and ids are texts.
use Rattle.std.proofs.Common.{◌≡◌, ℕ, zero, suc, ◌*◌, ◌/◌, ◌%◌, ◌^◌, ◌<◌, true, ◌&&◌, nat_le, List, [], ◌∷◌, ◌++◌, length, arith}
use Rattle.std.specs.List.{list_all}
use Rattle.std.specs.Str.{IsUtf8, IsAscii}
use Rattle.std.proofs.lemmas.Bool.{and_parts}
use Rattle.std.proofs.lemmas.Bool.Decides.{nat_tests}
use Rattle.std.proofs.lemmas.Str.{IsUtf8-from_ascii, IsAscii-append}
use Rattle.std.proofs.lemmas.Str.Ascii.{IsAscii-nil, IsAscii-cons}
use Rattle.login_base.specs.IdText.{hex_digit, hex_text, id_bytes}
use Rattle.login_base.specs.declared.id.Id.{Id}
use Rattle.login_base.specs.Names.{is_name, is_name_byte, is_first_byte}

plain_byte : (b : ℕ) → is_name_byte b ≡ true → b < 128
plain_byte b h = grind (arith, nat_tests)

plain_bytes : (bs : List ℕ) → list_all is_name_byte bs ≡ true → IsAscii bs
plain_bytes [] h = IsAscii-nil
plain_bytes (b ∷ bs) h =
    let parts = and_parts (is_name_byte b) (list_all is_name_byte bs) h in
    IsAscii-cons b bs (plain_byte b parts.0) (plain_bytes bs parts.1)

pub name_utf8 : (name : List ℕ) → is_name name ≡ true → IsUtf8 name
name_utf8 [] h = absurd cc
name_utf8 (b ∷ bs) h =
    let bytes = and_parts (nat_le (length (b ∷ bs)) 64 && is_first_byte b) (list_all is_name_byte (b ∷ bs)) h in
    IsUtf8-from_ascii (b ∷ bs) (plain_bytes (b ∷ bs) bytes.1)

pub ruleset name_rules = (name_utf8)

-- ---- ids

digit_plain : (d : ℕ) → d < 16 → hex_digit d < 128
digit_plain d h = grind (arith, nat_tests)

hex_plain : (k n : ℕ) → IsAscii (hex_text k n)
unfolding hex_text
hex_plain zero n = IsAscii-nil
hex_plain (suc k) n =
    let d : ℕ = n / 2 ^ (4 * k) % 16 in
    let small : d < 16 = omega arith in
    IsAscii-cons (hex_digit d) (hex_text k n) (digit_plain d small) (hex_plain k n)

pub id_utf8 : (id : Id) → IsUtf8 (id_bytes id)
unfolding id_bytes
id_utf8 id =
    IsUtf8-from_ascii _
    (IsAscii-append (hex_text 16 id.serial) (46 ∷ (hex_text 16 id.high ++ hex_text 16 id.low)) (hex_plain 16 id.serial)
    (IsAscii-cons 46 (hex_text 16 id.high ++ hex_text 16 id.low) (omega arith)
    (IsAscii-append (hex_text 16 id.high) (hex_text 16 id.low) (hex_plain 16 id.high) (hex_plain 16 id.low))))
