use Rattle.std.proofs.Common.{◌≡◌, take}
use Rattle.std.specs.Prelude.{fold}
use Rattle.facts.proofs.fold.fold_in.Given as goal

abbrev pub invariant-loop-fact : goal.invariant-loop-fact
invariant-loop-fact g l = l.carried ≡ fold (g.F.Fold.carry l.step) l.fn.start (take l.fact-index l.more)
