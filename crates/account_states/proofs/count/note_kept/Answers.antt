use Rattle.account_states.proofs.CountLemmas.{gains_more}
use Rattle.account_states.proofs.count.note_kept.Goals as goal

pub loop-i-preserved : goal.loop-i-preserved
loop-i-preserved g c =
    gains_more c.args.seen.now c.loop-i.seen c.note.new.seen c.args.chronicle.now.list c.loop-i.i c.at.result.now
    c.at.ensures.fact c.loop-i.invariant c.in_ok-note.ensures
