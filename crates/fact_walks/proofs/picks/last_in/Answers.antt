use Rattle.std.proofs.Common.{sym}
use Rattle.facts.proofs.PlacesLemmas.{got, last_of-more}
use Rattle.fact_walks.proofs.picks.last_in.Goals as goal

pub loop-fact-preserved : goal.loop-fact-preserved
loop-fact-preserved g c =
    let more = last_of-more (g.P.Pick.pick c.args.pick.now) c.args.more.now c.loop-fact.fact-index c.fact-item.result (got c.args.more.now c.loop-fact.fact-index c.fact-item.result c.loop-fact-test.true c.fact-item.is) in
    rw (c.renew.ensures, c.of.ensures.value, c.loop-fact.invariant) (sym more)
