-- How secrets are kept.
use Rattle.std.specs.Prelude.{ℕ, ◌+◌, ◌*◌, ◌%◌, ◌/◌, ◌==◌, ◌&&◌, Bool, nat_le, List, ◌∷◌, length, take, drop, Option, None, is_some}
use Rattle.realm_data.specs.PasswordHash.{HashedPassword, hash_of}
use Rattle.realm_data.specs.Secrets.{is_otp_key}
use Rattle.conditions.specs.declared.secret_kind.SecretKind.{SecretKind}
use Rattle.conditions.specs.declared.secret_kind.SecretKind.TheVariants as kinds
use Rattle.decimal_text.specs.Numbers.{number}
use Rattle.keeper_columns.specs.Words.{steps_in}

-- the number of four big-endian bytes
abbrev pub big_endian : ℕ → ℕ → ℕ → ℕ → ℕ
big_endian a b c d = a * 16777216 + b * 65536 + c * 256 + d

-- four bytes of iterations, one of the salt's length, the salt, and the digest
unfoldable pub password_in : List ℕ → Option HashedPassword
password_in (a ∷ b ∷ c ∷ d ∷ count ∷ rest) =
    hash_of (record { salt = take count rest; iterations = big_endian a b c d; digest = drop count rest })
password_in body = None

-- how many digests a list of recovery codes has
abbrev pub digest_count : List ℕ → ℕ
digest_count body = length body / 32

-- 1 to 16 digests of 32 bytes
abbrev pub are_digests : List ℕ → Bool
are_digests body = length body % 32 == 0 && nat_le 1 (digest_count body) && nat_le (digest_count body) 16

abbrev pub is_empty : List ℕ → Bool
is_empty text = length text == 0

-- body and spent are in the grammar of the kind: a password spends nothing, a one-time code its step, a recovery
-- code itself
abbrev pub is_kept : SecretKind → List ℕ → List ℕ → Bool
is_kept kinds.Password body spent = is_some (password_in body) && is_empty spent
is_kept kinds.Otp body spent = is_otp_key body && is_some (steps_in spent)
is_kept kinds.Recovery body spent = are_digests body && is_some (number (digest_count body) spent)
