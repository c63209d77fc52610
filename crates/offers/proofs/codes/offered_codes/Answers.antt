use Rattle.std.proofs.Common.{◌∙◌}
use Rattle.offers.proofs.OfferLemmas.{codes_more, codes_none}
use Rattle.offers.proofs.codes.offered_codes.Goals as goal

pub codes-init : goal.codes-init
codes-init c = c.new-codes.ensures.items ∙ codes_none c.args.offer.now

pub codes-preserved : goal.codes-preserved
codes-preserved c =
    codes_more c.args.offer.now c.codes.before c.codes.codes c.in_ok-offered_code.field-0 c.push.new.self
    c.codes.invariant c.in_ok-offered_code.ensures.ok c.in_ok-push.ensures.ok
