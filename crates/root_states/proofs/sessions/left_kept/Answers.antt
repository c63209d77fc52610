use Rattle.std.proofs.Common.{Some, ◌∙◌}
use Rattle.root_states.proofs.OutlivedLemmas.{left_on, ended_on}
use Rattle.root_states.proofs.sessions.left_kept.Goals as goal

pub returns-in_err-left : goal.returns-in_err-left
returns-in_err-left g c =
    ended_on c.args.chronicle.now.list c.loop-i.i _ (Some c.loop-i.left) c.from_residual.result c.loop-i.invariant
    c.in_err-left.ensures c.from_residual.ensures

pub loop-i-preserved : goal.loop-i-preserved
loop-i-preserved g c =
    c.loop-i.invariant
    ∙ left_on c.args.chronicle.now.list c.loop-i.i (Some c.loop-i.left) (Some c.in_ok-left.left) c.in_ok-left.ensures
