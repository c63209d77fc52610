-- Which tables a change of one table leaves as they are.
use Rattle.std.specs.Prelude.{◌≡◌, ◌≢◌, ℕ, List, [], ◌∷◌}
use Rattle.std.specs.List.{AllByRecursion}
use Rattle.sqlite_trees.specs.Tree.{Trees}

-- the trees that have the rows of the six tables
abbrev pub row_trees : List ℕ
row_trees = 0 ∷ 1 ∷ 3 ∷ 5 ∷ 7 ∷ 9 ∷ []

-- the rows of each other table than that of this tree stay
abbrev pub Spares : ℕ → Trees → Trees → Type 0
Spares tree db next = AllByRecursion (λ t. t ≢ tree → next t ≡ db t) row_trees
