-- HMAC (RFC 2104) over lists of bytes, for a hash function H whose blocks have B bytes.
use Rattle.std.specs.Prelude.{ℕ, ◌≤◌, ◌-◌, List, [], ◌∷◌, ◌++◌, length, nat_lt, replicate, bit_xor, if◌then◌else◌}
use Rattle.sha1.specs.Sha1.{sha1}
use Rattle.sha2.specs.Sha256.{sha256}
use Rattle.sha2.specs.Sha512.{sha512}

-- the xor of two texts, byte by byte
unfoldable pub xored : List ℕ → List ℕ → List ℕ
xored [] ys = []
xored (x ∷ xs) [] = []
xored (x ∷ xs) (y ∷ ys) = bit_xor x y ∷ xored xs ys

-- a text, filled up with zeros to a block
unfoldable pub filled_block : ℕ → List ℕ → List ℕ
filled_block B text = text ++ replicate (B - length text) 0

-- K0: the key, or its digest where it is longer than a block, filled up with zeros
abbrev pub block_key : (List ℕ → List ℕ) → ℕ → List ℕ → List ℕ
block_key H B key = filled_block B (if nat_lt B (length key) then H key else key)

abbrev pub ipad : ℕ → List ℕ
ipad B = replicate B 0x36

abbrev pub opad : ℕ → List ℕ
opad B = replicate B 0x5c

-- H(K0 xor opad, H(K0 xor ipad, message)) (section 2)
unfoldable pub hmac : (List ℕ → List ℕ) → ℕ → List ℕ → List ℕ → List ℕ
hmac H B key message =
    H (xored (block_key H B key) (opad B) ++ H (xored (block_key H B key) (ipad B) ++ message))

unfoldable pub hmac_sha1 : List ℕ → List ℕ → List ℕ
hmac_sha1 = hmac sha1 64

unfoldable pub hmac_sha256 : List ℕ → List ℕ → List ℕ
hmac_sha256 = hmac sha256 64

unfoldable pub hmac_sha512 : List ℕ → List ℕ → List ℕ
hmac_sha512 = hmac sha512 128

-- a digest of N bytes fits into a block of B bytes, and a block isn't long
abbrev pub AreSizes : ℕ → ℕ → Type 0
AreSizes N B = (1 ≤ N) × (N ≤ B) × (B ≤ 128)

-- two states of the hash function that have taken in the key's block, xored with either pad
abbrev pub HoldsKey : {S : Type 0} → (S → List ℕ → Type 0) → (List ℕ → List ℕ) → ℕ → S → S → List ℕ → Type 0
HoldsKey holds H B inner outer key =
    holds inner (xored (block_key H B key) (ipad B)) × holds outer (xored (block_key H B key) (opad B))
