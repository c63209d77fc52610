use Rattle.std.proofs.Common.{Some, refl}
use Rattle.toml.proofs.Views.{view-Boolean}
use Rattle.realm_print.proofs.users.unusual.Goals as goal

pub returns-else-flag-usual-clause-read : goal.returns-else-flag-usual-clause-read
returns-else-flag-usual-clause-read c = (Some c.args.flag, (λ path. rw (view-Boolean c.args.flag) refl), refl)
