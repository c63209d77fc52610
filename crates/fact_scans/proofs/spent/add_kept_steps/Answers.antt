use Rattle.fact_scans.proofs.SpentLemmas.{steps_at}
use Rattle.fact_scans.proofs.spent.add_kept_steps.Goals as goal

pub loop-i-preserved : goal.loop-i-preserved
loop-i-preserved g c =
    steps_at c.args.serial c.args.spent.now c.args.chronicle.now.list c.loop-i.i c.loop-i.spent c.add_step_at.new.spent
    c.loop-i.invariant c.in_ok-add_step_at.ensures
