-- A password as it is kept.
use Rattle.std.specs.Prelude.{◌≡◌, ℕ, ◌≤◌, Bool, ◌&&◌, ◌==◌, nat_le, List, length, take, Option, Some, None, if◌then◌else◌}
use Rattle.realm_data.specs.Padding.{padded}

pub record HashedPassword : Type 0 where
  pub salt : List ℕ
  pub iterations : ℕ
  pub digest : List ℕ

-- a password is hashed 1 to 2,000,000 times
abbrev pub is_iterations : ℕ → Bool
is_iterations n = nat_le 1 n && nat_le n 2000000

-- a salt of 1 to 64 bytes, and a digest of 32
abbrev pub is_hash : HashedPassword → Bool
is_hash h = nat_le 1 (length h.salt) && nat_le (length h.salt) 64 && is_iterations h.iterations && length h.digest == 32

-- the hash of these parts, or none where they are out of their ranges
abbrev pub hash_of : HashedPassword → Option HashedPassword
hash_of h = if is_hash h then Some h else None

-- so it lies in memory
pub record IsHash (salt : List ℕ) (len iterations : ℕ) : Type 0 where
  pub some : 1 ≤ len
  pub most : len ≤ 64
  pub padded : salt ≡ padded (take len salt)
  pub least : 1 ≤ iterations
  pub bound : iterations ≤ 2000000
