-- Texts in a head.
use Rattle.std.specs.Prelude.{ℕ, ◌==◌, Bool, List, [], ◌∷◌, map, reverse, if◌then◌else◌}
use Rattle.std.specs.Char.{to_ascii_lowercase}
use Rattle.std.specs.Str.{bytes_eq}

-- the same but for the case of ASCII letters
unfoldable pub same_word : List ℕ → List ℕ → Bool
same_word text other = bytes_eq (map to_ascii_lowercase text) (map to_ascii_lowercase other)

-- the bytes from the first that is no space
unfoldable pub skip_spaces : List ℕ → List ℕ
skip_spaces [] = []
skip_spaces (b ∷ bytes) = if b == 32 then skip_spaces bytes else b ∷ bytes

-- the bytes without the spaces at both ends
unfoldable pub trim_spaces : List ℕ → List ℕ
trim_spaces bytes = reverse (skip_spaces (reverse (skip_spaces bytes)))
