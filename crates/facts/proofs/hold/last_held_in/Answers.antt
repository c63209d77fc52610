use Rattle.std.proofs.Common.{sym}
use Rattle.facts.proofs.PlacesLemmas.{got, last_of-more}
use Rattle.facts.proofs.hold.last_held_in.Goals as goal

pub loop-fact-preserved : goal.loop-fact-preserved
loop-fact-preserved g c =
    let more = last_of-more (g.P.Hold.held c.args.hold.now) c.args.more.now c.loop-fact.fact-index c.fact-item.result (got c.args.more.now c.loop-fact.fact-index c.fact-item.result c.loop-fact-test.true c.fact-item.is) in
    rw (c.newer_held-found.ensures.value, c.of.ensures.value, c.loop-fact.invariant) (sym more)
