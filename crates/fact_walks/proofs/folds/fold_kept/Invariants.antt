use Rattle.std.proofs.Common.{◌≡◌, take}
use Rattle.std.specs.Prelude.{fold}
use Rattle.fact_walks.proofs.folds.fold_kept.Given as goal

abbrev pub invariant-loop-i : goal.invariant-loop-i
invariant-loop-i g l = l.carried ≡ fold (g.F.Fold.carry l.step) l.fn.start (take l.i l.chronicle.list)
