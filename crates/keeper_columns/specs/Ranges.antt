-- The ranges of numbers in the tables.
use Rattle.std.specs.Prelude.{ℕ, ℤ, pos, negsuc, ◌-◌, ◌^◌, ◌/◌, ◌+◌, Bool, true, false, ◌&&◌, nat_le, nat_lt}

-- from the least to the greatest, both included
abbrev pub is_within : ℕ → ℕ → ℤ → Bool
is_within least greatest (pos n) = nat_le least n && nat_le n greatest
is_within least greatest (negsuc n) = false

abbrev pub is_flag : ℤ → Bool
is_flag n = is_within 0 1 n

-- serials and the ids of accounts
abbrev pub is_serial : ℤ → Bool
is_serial n = is_within 1 (2 ^ 62) n

-- how many failures count
abbrev pub is_count : ℤ → Bool
is_count n = is_within 0 (2 ^ 32 - 1) n

-- in milliseconds
abbrev pub is_moment : ℤ → Bool
is_moment n = is_within 0 (2 ^ 53 - 1) n

-- a moment, or -1 for none
abbrev pub is_last : ℤ → Bool
is_last (pos n) = nat_le n (2 ^ 53 - 1)
is_last (negsuc n) = nat_le n 0

-- the end of a lock or of a token's life, which may be past the last moment
abbrev pub is_end : ℤ → Bool
is_end n = is_within 0 (2 ^ 54) n

-- a session's life in seconds, as in a realm
abbrev pub is_life : ℤ → Bool
is_life n = is_within 1 31536000 n

-- the number, or 0 for one below
abbrev pub natural : ℤ → ℕ
natural (pos n) = n
natural (negsuc n) = 0

-- the number is above this limit
abbrev pub is_above : ℕ → ℤ → Bool
is_above n (pos limit) = nat_lt limit n
is_above n (negsuc limit) = true

-- the step of 30 s can't have been spent until this moment: it is more than two steps later
abbrev pub is_step_above : ℕ → ℤ → Bool
is_step_above step (pos moment) = nat_lt (moment / 30000 + 2) step
is_step_above step (negsuc moment) = true
