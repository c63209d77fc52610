-- Items joined by commas.
use Rattle.std.specs.Prelude.{ℕ, ◌==◌, List, [], ◌∷◌, Option, Some, None}
use Rattle.std.specs.List.{slice_split}

abbrev pub with_first : {A : Type 0} → Option A → Option (List A) → Option (List A)
with_first (Some x) (Some xs) = Some (x ∷ xs)
with_first (Some x) None = None
with_first None xs = None

-- what each text says, where each is in its grammar
unfoldable pub all_of : {A : Type 0} → (List ℕ → Option A) → List (List ℕ) → Option (List A)
all_of read [] = Some []
all_of read (text ∷ texts) = with_first (read text) (all_of read texts)

-- the texts between the commas
abbrev pub parts : List ℕ → List (List ℕ)
parts text = slice_split (λ b. b == 44) text

-- items joined by commas, at least one
abbrev pub joined : {A : Type 0} → (List ℕ → Option A) → List ℕ → Option (List A)
joined read text = all_of read (parts text)
