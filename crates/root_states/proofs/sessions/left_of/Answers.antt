use Rattle.std.proofs.Common.{◌+◌, ◌++◌, Some, drop}
use Rattle.root_states.proofs.OutlivedLemmas.{none_begun, ended_before}
use Rattle.root_states.proofs.sessions.left_of.Goals as goal

pub returns-in_err-own : goal.returns-in_err-own
returns-in_err-own g c =
    none_begun c.args.chronicle.now.list c.args.more.now c.args.index
    (drop (c.args.index + 1) c.args.chronicle.now.list ++ c.args.more.now) c.from_residual.result c.in_err-own.ensures c.from_residual.ensures

pub returns-in_err-left : goal.returns-in_err-left
returns-in_err-left g c =
    ended_before c.args.chronicle.now.list c.args.more.now c.args.index (Some c.in_ok-own.own)
    c.from_residual-in_err-left.result c.in_ok-own.ensures c.in_err-left.ensures c.from_residual-in_err-left.ensures
