-- Names, passwords and codes in an ask.
use Rattle.std.specs.Prelude.{ℕ, Bool, false, not, ◌&&◌, ◌||◌, nat_le, nat_eq, List, [], ◌∷◌, length, Option, Some, None, map, if◌then◌else◌}
use Rattle.std.specs.List.{starts_with, list_all}
use Rattle.std.specs.Char.{to_ascii_lowercase, is_ascii_alphanumeric}
use Rattle.login_base.specs.Names.{is_name}

-- the bytes of U+FFFD stand somewhere in the text
unfoldable pub has_replacement : List ℕ → Bool
has_replacement [] = false
has_replacement (b ∷ bytes) = starts_with nat_eq (b ∷ bytes) (239 ∷ 191 ∷ 189 ∷ []) || has_replacement bytes

-- a name as it is written, whose capitals aren't read as small letters
abbrev pub exact_name : Option (List ℕ) → Option (List ℕ)
exact_name (Some value) = if is_name value then Some value else None
exact_name None = None

-- a user's name, whose capitals are read as small letters
abbrev pub user_name : Option (List ℕ) → Option (List ℕ)
user_name (Some value) = let name = map to_ascii_lowercase value in if is_name name then Some name else None
user_name None = None

-- 1 to 256 bytes of UTF-8; the character U+FFFD stands where the bytes weren't UTF-8
abbrev pub is_password : List ℕ → Bool
is_password value = nat_le 1 (length value) && nat_le (length value) 256 && not (has_replacement value)

-- a password, where it is well-formed
abbrev pub password_text : Option (List ℕ) → Option (List ℕ)
password_text (Some value) = if is_password value then Some value else None
password_text None = None

-- 1 to 32 ASCII letters or digits
abbrev pub is_code_value : List ℕ → Bool
is_code_value value = nat_le 1 (length value) && nat_le (length value) 32 && list_all is_ascii_alphanumeric value

-- a one-time or recovery code, where it is well-formed
abbrev pub code_value : Option (List ℕ) → Option (List ℕ)
code_value (Some value) = if is_code_value value then Some value else None
code_value None = None
