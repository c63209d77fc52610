-- The ranges of what users are kept with.
use Rattle.std.specs.Prelude.{ℕ, Bool, ◌&&◌, ◌==◌, nat_le, List, length}
use Rattle.std.specs.List.{list_all}

-- the key of a one-time code generator has 10 to 64 bytes
abbrev pub is_otp_key : List ℕ → Bool
is_otp_key key = nat_le 10 (length key) && nat_le (length key) 64

-- SHA-256 has 32 bytes
abbrev pub is_digest : List ℕ → Bool
is_digest digest = length digest == 32

-- a user has 1 to 16 recovery codes
abbrev pub are_recovery_digests : List (List ℕ) → Bool
are_recovery_digests digests = nat_le 1 (length digests) && nat_le (length digests) 16 && list_all is_digest digests
