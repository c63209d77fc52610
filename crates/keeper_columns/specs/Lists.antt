-- Lists in texts, whose items are joined by commas.
use Rattle.std.specs.Prelude.{ℕ, Bool, true, ◌==◌, ◌&&◌, List, [], ◌∷◌, Option, Some, None, option_map, option_and_then, if◌then◌else◌}
use Rattle.std.specs.List.{slice_split}

-- the texts between the commas; the empty text has none
abbrev pub parts_of : List ℕ → List (List ℕ)
parts_of [] = []
parts_of (b ∷ text) = slice_split (λ c. c == 44) (b ∷ text)

abbrev pub before_read : {A : Type 0} → Option A → Option (List A) → Option (List A)
before_read None items = None
before_read (Some item) items = option_map (λ rest. item ∷ rest) items

-- what the parts say, or none where one of them says nothing
unfoldable pub read_all : {A : Type 0} → (List ℕ → Option A) → List (List ℕ) → Option (List A)
read_all read [] = Some []
read_all read (part ∷ parts) = before_read (read part) (read_all read parts)

-- the item stands before the first of these
abbrev pub is_first : {A : Type 0} → (A → A → Bool) → A → List A → Bool
is_first before item [] = true
is_first before item (next ∷ items) = before item next

-- each item stands before the next one
unfoldable pub are_ascending : {A : Type 0} → (A → A → Bool) → List A → Bool
are_ascending before [] = true
are_ascending before (item ∷ items) = is_first before item items && are_ascending before items

abbrev pub if_ascending : {A : Type 0} → (A → A → Bool) → List A → Option (List A)
if_ascending before items = if are_ascending before items then Some items else None

-- the items that a text lists in their order, without repeats
unfoldable pub list_in : {A : Type 0} → (List ℕ → Option A) → (A → A → Bool) → List ℕ → Option (List A)
list_in read before text = option_and_then (if_ascending before) (read_all read (parts_of text))
