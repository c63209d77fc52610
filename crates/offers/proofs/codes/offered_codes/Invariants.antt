use Rattle.std.proofs.Common.{◌≡◌}
use Rattle.offers.specs.Offers.{offered_codes}
use Rattle.offers.proofs.codes.offered_codes.Given as goal

abbrev pub invariant-codes : goal.invariant-codes
invariant-codes l = l.codes ≡ offered_codes l.offer l.before
