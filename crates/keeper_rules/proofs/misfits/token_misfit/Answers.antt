use Rattle.std.proofs.Common.{refl}
use Rattle.keeper_rules.proofs.misfits.token_misfit.Goals as goal

pub returns : goal.returns
returns c =
    rw (c.broken.ensures, c.earlier.ensures.place, c.in_ok-unfit.ensures.ok, c.in_ok-userless.ensures.ok, c.as_slice-tokens.ensures.items, c.as_slice.ensures.items) refl
