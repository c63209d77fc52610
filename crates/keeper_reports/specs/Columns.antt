-- The columns of a report's line.
use Rattle.std.specs.Prelude.{ℕ, List, [], ◌∷◌, ◌++◌, ◌-◌, length, replicate, codes}
use Rattle.std.specs.List.{join_with_byte}

-- filled up with spaces behind the text; a longer text is whole
abbrev pub left_in : ℕ → List ℕ → List ℕ
left_in width text = text ++ replicate (width - length text) 32

-- filled up with spaces before the text; a longer text is whole
abbrev pub right_in : ℕ → List ℕ → List ℕ
right_in width text = replicate (width - length text) 32 ++ text

-- `-` stands for nothing
abbrev pub shown : List ℕ → List ℕ
shown [] = codes "-"
shown (byte ∷ bytes) = byte ∷ bytes

-- one space stands between columns, and a newline ends the line
abbrev pub line_of : List (List ℕ) → List ℕ
line_of columns = join_with_byte 32 columns ++ codes "\n"
