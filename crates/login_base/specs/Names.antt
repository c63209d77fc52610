-- The grammar of names.
use Rattle.std.specs.Prelude.{ℕ, Bool, false, ◌==◌, ◌&&◌, ◌||◌, nat_le, List, [], ◌∷◌, length}
use Rattle.std.specs.List.{list_all}

-- a small letter or a digit
abbrev pub is_first_byte : ℕ → Bool
is_first_byte b = (nat_le 97 b && nat_le b 122) || (nat_le 48 b && nat_le b 57)

-- the bytes after the first
abbrev pub is_name_byte : ℕ → Bool
is_name_byte b = is_first_byte b || b == 46 || b == 95 || b == 64 || b == 45

abbrev pub is_name : List ℕ → Bool
is_name [] = false
is_name (b ∷ bs) = nat_le (length (b ∷ bs)) 64 && is_first_byte b && list_all is_name_byte (b ∷ bs)
