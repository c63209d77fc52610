-- Decimal texts.
use Rattle.std.specs.Prelude.{ℕ, ◌==◌, ◌&&◌, ◌||◌, Bool, false, nat_le, List, [], ◌∷◌, length, Option, Some, None, decimal, if◌then◌else◌}
use Rattle.std.specs.Str.{bytes_eq}
use Rattle.std.specs.Str.Parse.{digits_value}

-- `0`, or a text that begins with another digit
abbrev pub starts_number : List ℕ → Bool
starts_number [] = false
starts_number (b ∷ bytes) = (b == 48 && length bytes == 0) || (nat_le 49 b && nat_le b 57)

-- the number up to last whose decimal text this is: the only one that it can be is the value of its digits
unfoldable pub number : ℕ → List ℕ → Option ℕ
number last text = let n = digits_value 10 text in if bytes_eq (decimal n) text && nat_le n last then Some n else None
