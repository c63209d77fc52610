-- What is read of an answer.
use Rattle.std.specs.Prelude.{◌≡◌, ℕ, ℤ, List, length, map}
use Rattle.std.specs.declared.cmp.Ordering.{Ordering}
use Rattle.std.specs.declared.cmp.Ordering.TheVariants.{Less}
use Rattle.std.specs.List.{AllAdjacentBelow, AllByRecursion}
use Rattle.std.specs.Ordering.{int_cmp}
use Rattle.sqlite.specs.declared.types.Value.TheVariants.{Int}
use Rattle.sqlite.specs.Order.{Row, column}
use Rattle.sql_base.specs.Ready.{AreApart}

-- each has a lower key than the next
abbrev pub Rises : {R K : Type 0} → (K → K → Ordering) → (R → K) → List R → Type 0
Rises cmp key rows = AllAdjacentBelow (λ a b. cmp (key a) (key b) ≡ Less) rows (length rows)

-- each row fits and is as it is told, and each has a lower key than the next
pub record IsRead {R K : Type 0} (cmp : K → K → Ordering) (key : R → K) (told_by : Row → R) (Fits : Row → Type 0) (rows : List Row) (told : List R) : Type 0 where
  pub is : told ≡ map told_by rows
  pub fit : AllByRecursion Fits rows
  pub rising : Rises cmp key told

-- the rowids, which stand at one place, are numbers that differ
pub record HaveRowids (at : ℕ) (rows : List Row) : Type 0 where
  pub rowids : List ℤ
  pub numbers : map Int rowids ≡ map (λ row. column row at) rows
  pub apart : AreApart int_cmp (λ n. n) rowids
