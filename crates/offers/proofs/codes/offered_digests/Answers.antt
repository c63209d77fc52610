use Rattle.std.proofs.Common.{◌∙◌}
use Rattle.offers.proofs.OfferLemmas.{digests_kept}
use Rattle.offers.proofs.codes.offered_digests.Goals as goal

pub kept-requires : goal.kept-requires
kept-requires c =
    digests_kept c.args.offer.now c.args.count c.as_slice.result.now c.in_ok-digests_of.field-0
    (c.as_slice.ensures.items ∙ c.in_ok-codes.ensures.ok) c.in_ok-digests_of.ensures.ok c.requires.least c.requires.most
