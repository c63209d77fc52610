use Rattle.std.proofs.Common.{[], ◌∷◌, length, arith, ap, ◌∙◌, length-append}
use Rattle.flow_tree.specs.Standing.{depth_of, before_of}
use Rattle.flow_tree.proofs.Earlier.{before_nothing, before_flow, before_all, flow_place}
use Rattle.flow_tree.specs.Places.{places_at}
use Rattle.flow_tree.proofs.before.Before.+left_of.Goals as goal

pub returns-in-Nothing : goal.returns-in-Nothing
returns-in-Nothing t c = let h = ap length (before_nothing _ c.in-Nothing.is) in omega (arith, h)

pub returns-in-Flow : goal.returns-in-Flow
returns-in-Flow t c = let h = ap length (before_flow _ _ _ _ c.in-Flow.is) ∙ length-append (before_of c.in-Flow.before.now) (flow_place (depth_of c.in-Flow.before.now) c.in-Flow.id.now c.in-Flow.requirement ∷ []) in omega (arith, h, c.left_of.ensures, c.saturating_sub.ensures)

pub returns-in-All : goal.returns-in-All
returns-in-All t c = let h = ap length (before_all _ _ _ c.in-All.is) ∙ length-append (before_of c.in-All.before.now) (places_at (depth_of c.in-All.before.now) c.in-All.execs.now) in omega (arith, h, c.left_of-in-All.ensures, c.left_after.ensures (depth_of c.in-All.before.now))
