use Rattle.facts.proofs.PlacesLemmas.{got}
use Rattle.root_states.proofs.LevelLemmas.{levels_more}
use Rattle.root_states.proofs.levels.add_levels.Goals as goal

pub loop-fact-preserved : goal.loop-fact-preserved
loop-fact-preserved c =
    let at = got c.args.more.now c.loop-fact.fact-index c.fact-item.result c.loop-fact-test.true c.fact-item.is in
    levels_more c.args.session c.args.levels.now c.args.more.now c.loop-fact.fact-index c.loop-fact.levels
    c.add_level.new.levels c.fact-item.result at c.loop-fact.invariant c.in_ok-add_level.ensures
