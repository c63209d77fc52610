-- PBKDF2 (RFC 8018, section 5.2) over lists of bytes, for a pseudorandom function PRF of a key and
-- a text whose results have `size` bytes.
use Rattle.std.specs.Prelude.{ℕ, zero, suc, ◌-◌, List, [], ◌++◌, take}
use Rattle.std.specs.Int.{w32, to_be_bytes, div_ceil}
use Rattle.mac_kit.specs.Hmac.{xored, hmac_sha1, hmac_sha256}

-- U_1 = PRF(P, S || INT(i)) and U_(j + 1) = PRF(P, U_j), from U_1 at j = 0 on
unfoldable pub round_value : (List ℕ → List ℕ → List ℕ) → List ℕ → List ℕ → ℕ → ℕ → List ℕ
round_value prf password salt i zero = prf password (salt ++ to_be_bytes w32 i)
round_value prf password salt i (suc j) = prf password (round_value prf password salt i j)

-- U_1 xor .. xor U_(j + 1)
unfoldable pub xor_through : (List ℕ → List ℕ → List ℕ) → List ℕ → List ℕ → ℕ → ℕ → List ℕ
xor_through prf password salt i zero = round_value prf password salt i zero
xor_through prf password salt i (suc j) =
    xored (xor_through prf password salt i j) (round_value prf password salt i (suc j))

-- T_i = F(P, S, c, i), the xor of U_1 to U_c
abbrev pub block_of : (List ℕ → List ℕ → List ℕ) → List ℕ → List ℕ → ℕ → ℕ → List ℕ
block_of prf password salt c i = xor_through prf password salt i (c - 1)

-- T_1 || .. || T_l
unfoldable pub blocks_of : (List ℕ → List ℕ → List ℕ) → List ℕ → List ℕ → ℕ → ℕ → List ℕ
blocks_of prf password salt c zero = []
blocks_of prf password salt c (suc l) =
    blocks_of prf password salt c l ++ block_of prf password salt c (suc l)

-- the derived key of n bytes: the first ones of as many blocks as it takes
unfoldable pub pbkdf2 : (List ℕ → List ℕ → List ℕ) → ℕ → List ℕ → List ℕ → ℕ → ℕ → List ℕ
pbkdf2 prf size password salt c n =
    take n (blocks_of prf password salt c (div_ceil n size))

-- PBKDF2-HMAC-SHA-1: the password, the salt, the iteration count, the length in bytes
unfoldable pub pbkdf2_sha1 : List ℕ → List ℕ → ℕ → ℕ → List ℕ
pbkdf2_sha1 = pbkdf2 hmac_sha1 20

-- PBKDF2-HMAC-SHA-256, likewise
unfoldable pub pbkdf2_sha256 : List ℕ → List ℕ → ℕ → ℕ → List ℕ
pbkdf2_sha256 = pbkdf2 hmac_sha256 32
