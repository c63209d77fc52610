-- How secrets are kept.
use Rattle.std.specs.Prelude.{ℕ, ◌%◌, List, ◌∷◌, ◌++◌, length}
use Rattle.std.specs.Int.{w32, to_be_bytes}
use Rattle.std.specs.List.{flat_map}
use Rattle.realm_data.specs.PasswordHash.{HashedPassword}

-- four bytes of iterations, one of the salt's length, which is 64 at most, the salt, and the digest
abbrev pub password_body : HashedPassword → List ℕ
password_body hash = to_be_bytes w32 hash.iterations ++ length hash.salt % 256 ∷ (hash.salt ++ hash.digest)

-- the digests of recovery codes, in order
abbrev pub recovery_body : List (List ℕ) → List ℕ
recovery_body digests = flat_map (λ digest. digest) digests
