-- Words that are read back.
use Rattle.std.proofs.Common.{◌≡◌, ℕ, zero, suc, ◌/◌, ◌%◌, ◌^◌, ◌<◌, pos, true, ◌&&◌, nat_le, List, [], ◌∷◌, map, length, get_or, Option, Some, refl, arith}
use Rattle.std.specs.List.{list_all}
use Rattle.std.specs.Str.{IsUtf8, IsAscii}
use Rattle.std.proofs.lemmas.Bool.{and_parts, le-leb}
use Rattle.std.proofs.lemmas.Bool.Decides.{nat_tests}
use Rattle.std.proofs.lemmas.List.{map_push}
use Rattle.std.proofs.lemmas.Str.{IsUtf8-from_ascii}
use Rattle.std.proofs.lemmas.Str.Ascii.{IsAscii-nil, IsAscii-cons, IsAscii-push}
use Rattle.hex.specs.Hex.{IsBytes, encode_lower}
use Rattle.hex.proofs.HexLemmas.{decode_of-encode_lower, decode_sized-encode_lower}
use Rattle.toml.specs.Data.{string, integer}
use Rattle.login_base.specs.Names.{is_name, is_name_byte, is_first_byte}
use Rattle.one_time.specs.Base32.{base32_letters, byte_digits, digits_of, letter_of}
use Rattle.one_time.proofs.ReadBack.{reads_back}
use Rattle.realm_data.specs.Realm.{is_within}
use Rattle.realm_data.specs.Secrets.{is_digest, is_otp_key}
use Rattle.realm_fields.specs.Reading.{word_in, number_in}
use Rattle.realm_fields.specs.Words.{name_of, digest_of, salt_of, is_salt, otp_of}
use Rattle.realm_print.specs.Printed.{IsReadAs}

-- ---- kinds of values

-- a word of the grammar
pub word_back : {A : Type 0} (grammar : List ℕ → Option A) (word : List ℕ) (x : A) → grammar word ≡ Some x → IsReadAs (word_in grammar) (string word) x
word_back grammar word x h = λ path. rw h refl

-- a number in its range
pub number_back : (least most n : ℕ) → is_within least most n ≡ true → IsReadAs (number_in least most) (integer (pos n)) n
number_back least most n h = λ path. rw h refl

-- a number up to a greatest
pub upto_back : (most n : ℕ) → nat_le n most ≡ true → IsReadAs (number_in 0 most) (integer (pos n)) n
upto_back most n h = number_back 0 most n (rw (le-leb 0 n (omega arith), h) refl)

-- ---- names

name_byte : (b : ℕ) → is_name_byte b ≡ true → b < 128
name_byte b h = grind (arith, nat_tests)

name_bytes : (bs : List ℕ) → list_all is_name_byte bs ≡ true → IsAscii bs
name_bytes [] h = IsAscii-nil
name_bytes (b ∷ bs) h =
    let parts = and_parts (is_name_byte b) (list_all is_name_byte bs) h in
    IsAscii-cons b bs (name_byte b parts.0) (name_bytes bs parts.1)

pub name_utf8 : (name : List ℕ) → is_name name ≡ true → IsUtf8 name
name_utf8 [] h = absurd cc
name_utf8 (b ∷ bs) h =
    let bytes = and_parts (nat_le (length (b ∷ bs)) 64 && is_first_byte b) (list_all is_name_byte (b ∷ bs)) h in
    IsUtf8-from_ascii (b ∷ bs) (name_bytes (b ∷ bs) bytes.1)

pub name_known : (name : List ℕ) → is_name name ≡ true → name_of name ≡ Some name
name_known name h = rw h refl

-- ---- digests and salts

pub digest_known : (digest : List ℕ) → IsBytes digest → is_digest digest ≡ true → digest_of (encode_lower digest) ≡ Some digest
digest_known digest bytes long =
    let size : length digest ≡ 32 = grind (arith, nat_tests) in
    rw (decode_sized-encode_lower digest 32 size bytes) refl

pub salt_known : (salt : List ℕ) → IsBytes salt → is_salt salt ≡ true → salt_of (encode_lower salt) ≡ Some salt
salt_known salt bytes long = rw (decode_of-encode_lower salt bytes, long) refl

-- ---- keys of one-time codes

letter_byte : (d : ℕ) → d < 32 → letter_of d < 128
letter_byte d h = grind (arith, nat_tests)

letters_ascii : (k v : ℕ) → IsAscii (map letter_of (digits_of 5 k v))
unfolding digits_of
letters_ascii zero v = IsAscii-nil
letters_ascii (suc k) v =
    rw map_push (IsAscii-push (map letter_of (digits_of 5 k (v / 2 ^ 5))) (letter_of (v % 2 ^ 5)) (letters_ascii k (v / 2 ^ 5)) (letter_byte (v % 2 ^ 5) (omega arith)))

pub otp_utf8 : (key : List ℕ) → IsUtf8 (base32_letters key)
unfolding base32_letters byte_digits
otp_utf8 key = IsUtf8-from_ascii _ (letters_ascii _ _)

pub otp_known : (key : List ℕ) → ((j : ℕ) → j < length key → get_or key j 0 < 2 ^ 8) → is_otp_key key ≡ true → otp_of (base32_letters key) ≡ Some key
otp_known key bytes long = rw (reads_back key bytes, long) refl

pub ruleset name_rules = (name_utf8)
