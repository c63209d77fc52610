use Rattle.std.proofs.Common.{refl}
use Rattle.keeper_rules.proofs.misfits.secret_misfit.Goals as goal

pub returns : goal.returns
returns c =
    rw (c.broken.ensures, c.earlier-2.ensures.place, c.earlier.ensures.place, c.in_ok-unfit.ensures.ok, c.in_ok-userless.ensures.ok, c.in_ok-repeated.ensures.ok, c.as_slice-secrets.ensures.items, c.as_slice.ensures.items) refl
