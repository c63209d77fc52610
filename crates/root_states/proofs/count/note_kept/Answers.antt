use Rattle.std.proofs.Common.{arith}
use Rattle.root_states.proofs.SetLemmas.{gains_at}
use Rattle.root_states.proofs.count.note_kept.Goals as goal

pub loop-i-preserved : goal.loop-i-preserved
loop-i-preserved g c =
    gains_at c.args.now c.args.facts.now c.args.seen.now c.loop-i.seen c.note_at.new.seen
    c.args.chronicle.now.list c.loop-i.i (omega arith) c.loop-i.invariant c.in_ok-note_at.ensures
