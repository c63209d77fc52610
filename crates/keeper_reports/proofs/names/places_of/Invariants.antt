use Rattle.std.proofs.Common.{take}
use Rattle.keeper_reports.specs.Names.{ArePlaces}
use Rattle.keeper_reports.proofs.names.places_of.Given as goal

abbrev pub invariant-loop-place : goal.invariant-loop-place
invariant-loop-place l = ArePlaces l.places (take l.place l.accounts)
