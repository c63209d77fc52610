-- Numbers as columns hold them.
use Rattle.std.specs.Prelude.{ℕ, ℤ, pos, negsuc, ◌-◌, ◌^◌, min, Bool, Option, Some, None, if◌then◌else◌}

-- the greatest number of a column stands for all past it
abbrev pub column : ℕ → ℤ
column n = pos (min n (2 ^ 63 - 1))

abbrev pub flag : Bool → ℤ
flag is = if is then pos 1 else pos 0

-- a moment, or -1 for none
abbrev pub moment_or_none : Option ℕ → ℤ
moment_or_none None = negsuc 0
moment_or_none (Some moment) = pos moment
