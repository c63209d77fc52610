use Rattle.facts.proofs.PlacesLemmas.{got}
use Rattle.root_states.proofs.SetLemmas.{gains_more}
use Rattle.root_states.proofs.count.note_more.Goals as goal

pub loop-fact-preserved : goal.loop-fact-preserved
loop-fact-preserved g c =
    let at = got c.args.more.now c.loop-fact.fact-index c.fact-item.result c.loop-fact-test.true c.fact-item.is in
    gains_more c.args.now c.args.facts.now c.args.seen.now c.loop-fact.seen c.note.new.seen
    c.args.more.now c.loop-fact.fact-index c.fact-item.result at c.loop-fact.invariant c.in_ok-note.ensures
