use Rattle.std.proofs.Common.{◌≡◌, take, map}
use Rattle.sha2.specs.Sha256.{sha256}
use Rattle.offers.proofs.codes.digests_of.Given as goal

abbrev pub invariant-codes : goal.invariant-codes
invariant-codes l = l.digests ≡ map sha256 (take l.code-index l.codes)
