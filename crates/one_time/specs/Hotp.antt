-- HOTP (RFC 4226, section 5.3) over lists of bytes, which is TOTP (RFC 6238) at the counter of a
-- time step, and the decimal text of a code.
use Rattle.std.specs.Prelude.{ℕ, zero, suc, ◌+◌, ◌/◌, ◌%◌, ◌^◌, Bool, List, [], ◌∷◌, slice_index}
use Rattle.std.specs.Int.{w32, w64, from_be_bytes, to_be_bytes}
use Rattle.std.specs.Str.{bytes_eq}
use Rattle.mac_kit.specs.Hmac.{hmac_sha1}

-- the low four bits of the last of the 20 bytes
abbrev pub offset_of : List ℕ → ℕ
offset_of mac = slice_index mac 19 % 2 ^ 4

-- the last 31 bits of the four bytes at the offset
unfoldable pub truncated : List ℕ → ℕ
truncated mac =
    let at = offset_of mac in
    from_be_bytes w32 (slice_index mac at ∷ slice_index mac (at + 1) ∷ slice_index mac (at + 2) ∷ slice_index mac (at + 3) ∷ []) % 2 ^ 31

-- the code of a counter under a key
unfoldable pub hotp : List ℕ → ℕ → ℕ → ℕ
hotp key counter digits = truncated (hmac_sha1 key (to_be_bytes w64 counter)) % 10 ^ digits

-- the last k decimal digits of a number
unfoldable pub decimal_text : ℕ → ℕ → List ℕ
decimal_text zero n = []
decimal_text (suc k) n = (48 + n / 10 ^ k % 10) ∷ decimal_text k n

-- a text is the code of this counter, with leading zeros
unfoldable pub is_code_of : List ℕ → ℕ → List ℕ → ℕ → Bool
is_code_of key digits text counter = bytes_eq text (decimal_text digits (hotp key counter digits))
