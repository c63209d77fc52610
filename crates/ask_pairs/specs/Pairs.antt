-- The pairs of a form's text.
use Rattle.std.specs.Prelude.{ℕ, Bool, List, [], ◌∷◌, map, filter, Option, Some, None}
use Rattle.std.specs.List.{list_any}
use Rattle.std.specs.Str.{bytes_eq}
use Rattle.std.specs.Str.Lossy.{utf8_lossy}
use Rattle.form_urlencoded.specs.Form.{raw_pairs, decode}
use Rattle.ask_pairs.specs.declared.pairs.Pair.{Pair}

abbrev pub pair_from : List ℕ × List ℕ → Pair
pair_from pair = record { name = utf8_lossy (decode pair.0); value = utf8_lossy (decode pair.1) }

abbrev pub pairs_of : List ℕ → List Pair
pairs_of text = map pair_from (raw_pairs text)

abbrev pub is_named : List ℕ → Pair → Bool
is_named name pair = bytes_eq pair.name name

-- some pair has this name
abbrev pub has : List ℕ → List Pair → Bool
has name pairs = list_any (is_named name) pairs

-- the value of the one pair
abbrev pub only_value : List Pair → Option (List ℕ)
only_value [] = None
only_value (pair ∷ []) = Some pair.value
only_value (pair ∷ other ∷ pairs) = None

-- the value of the pair of this name, where there is exactly one
abbrev pub value_of : List ℕ → List Pair → Option (List ℕ)
value_of name pairs = only_value (filter (is_named name) pairs)
