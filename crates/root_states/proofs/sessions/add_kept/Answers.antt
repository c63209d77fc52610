use Rattle.root_states.proofs.OutlivedLemmas.{moved_at}
use Rattle.root_states.proofs.sessions.add_kept.Goals as goal

pub loop-i-preserved : goal.loop-i-preserved
loop-i-preserved g c =
    moved_at c.args.now _ c.loop-i.ended c.add_outlived.new.ended c.args.chronicle.now.list c.args.more.now c.loop-i.i
    c.left_of-left.result c.left_of-left.ensures c.loop-i.invariant c.in_ok-add_outlived.ensures
