use Rattle.std.proofs.Common.{◌≡◌, true}
use Rattle.std.specs.List.{AllWithin}
use Rattle.keeper_rules.proofs.rows.first_unfit.Given as goal

abbrev pub invariant-rows : goal.invariant-rows
invariant-rows g l = AllWithin (λ row. g.R.Fits.fits row ≡ true) l.rows 0 l.at
