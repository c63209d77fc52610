use Rattle.std.proofs.Common.{sym}
use Rattle.facts.proofs.PlacesLemmas.{fold-more-by}
use Rattle.fact_walks.proofs.folds.fold_kept.Goals as goal

pub loop-i-preserved : goal.loop-i-preserved
loop-i-preserved g c =
    let more = fold-more-by (g.F.Fold.carry c.args.step.now) c.args.start c.args.chronicle.now.list c.loop-i.i c.carry_at.new.carried in
    sym (more (rw (sym c.loop-i.invariant) c.carry_at.ensures))
