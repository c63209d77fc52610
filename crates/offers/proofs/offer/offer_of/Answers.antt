use Rattle.std.proofs.Common.{arith}
use Rattle.offers.proofs.OfferLemmas.{offer_made}
use Rattle.offers.proofs.offer.offer_of.Goals as goal

pub returns : goal.returns
returns c = record {
  value = offer_made c.args.draws.now c.draws.draw-index c.finalize.result (omega arith) (c.finalize.ensures _ c.draws.invariant);
}
