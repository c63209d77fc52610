use Rattle.std.proofs.Common.{take}
use Rattle.std.specs.Int.{w64, to_be_bytes}
use Rattle.std.specs.List.{flat_map}
use Rattle.sha2.specs.Hashers.{Holds256}
use Rattle.offers.proofs.offer.offer_of.Given as goal

abbrev pub invariant-draws : goal.invariant-draws
invariant-draws l = Holds256 l.hasher (flat_map (to_be_bytes w64) (take l.draw-index l.draws.0))
