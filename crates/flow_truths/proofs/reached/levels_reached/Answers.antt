use Rattle.std.proofs.Common.{rules}
use Rattle.flow_truths.proofs.Reaching.{reached_more}
use Rattle.flow_truths.proofs.reached.levels_reached.Goals as goal

pub loop-below-preserved : goal.loop-below-preserved
loop-below-preserved c = search (reached_more, rules)
