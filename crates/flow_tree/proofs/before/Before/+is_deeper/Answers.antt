use Rattle.std.proofs.Common.{nat_lt, arith, ap, sym, ◌∙◌}
use Rattle.std.proofs.lemmas.Bool.Decides.{nat_tests}
use Rattle.flow_tree.proofs.Earlier.{depth_nothing, depth_flow, depth_all}
use Rattle.flow_tree.proofs.before.Before.+is_deeper.Goals as goal

pub returns-in-Nothing : goal.returns-in-Nothing
returns-in-Nothing t c = let h = depth_nothing _ c.in-Nothing.is in grind (arith, nat_tests)

pub returns-then-than-eq0 : goal.returns-then-than-eq0
returns-then-than-eq0 t c = let h = depth_flow _ _ _ _ c.in-Flow.is in grind (arith, nat_tests)

pub returns-else-than-eq0 : goal.returns-else-than-eq0
returns-else-than-eq0 t c = let h = depth_flow _ _ _ _ c.in-Flow.is in grind (arith, nat_tests)

pub returns-in-All : goal.returns-in-All
returns-in-All t c = c.is_deeper-in-All.ensures ∙ ap (nat_lt c.args.than) (sym (depth_all _ _ _ c.in-All.is))
