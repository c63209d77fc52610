use Rattle.root_states.proofs.LevelLemmas.{levels_at}
use Rattle.root_states.proofs.levels.add_kept_levels.Goals as goal

pub loop-i-preserved : goal.loop-i-preserved
loop-i-preserved g c =
    levels_at c.args.session c.args.levels.now c.args.chronicle.now.list c.loop-i.i c.loop-i.levels
    c.add_level_at.new.levels c.loop-i.invariant c.in_ok-add_level_at.ensures
