use Rattle.facts.proofs.PlacesLemmas.{got}
use Rattle.fact_scans.proofs.SpentLemmas.{steps_more}
use Rattle.fact_scans.proofs.spent.add_steps.Goals as goal

pub loop-fact-preserved : goal.loop-fact-preserved
loop-fact-preserved c =
    let at = got c.args.more.now c.loop-fact.fact-index c.fact-item.result c.loop-fact-test.true c.fact-item.is in
    steps_more c.args.serial c.args.spent.now c.args.more.now c.loop-fact.fact-index c.loop-fact.spent c.add_step.new.spent c.fact-item.result at
    c.loop-fact.invariant c.in_ok-add_step.ensures
