use Rattle.std.proofs.Common.{◌≡◌, Less}
use Rattle.std.specs.List.{AllAdjacentBelow}
use Rattle.sql_loads.proofs.reading.rise.Given as goal

abbrev pub invariant-loop-i : goal.invariant-loop-i
invariant-loop-i g l = AllAdjacentBelow (λ a b. g.R.Key.Ord.cmp (g.R.Keyed.key a) (g.R.Keyed.key b) ≡ Less) l.rows l.i
