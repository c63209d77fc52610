use Rattle.std.proofs.Common.{◌≡◌, drop}
use Rattle.realm_file.specs.Rules.{acr_bound}
use Rattle.realm_file.proofs.rules.check_acr.Given as goal

abbrev pub invariant-levels : goal.invariant-levels
invariant-levels l = acr_bound l.flow (drop l.level-index l.acr) ≡ acr_bound l.flow l.acr
