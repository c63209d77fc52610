-- How long a token may live.
use Rattle.std.specs.Prelude.{ℕ, Bool, ◌&&◌, nat_le}

-- 1 to 31,536,000 seconds
abbrev pub is_life : ℕ → Bool
is_life seconds = nat_le 1 seconds && nat_le seconds 31536000
