use Rattle.std.proofs.Common.{◌≡◌, map, take}
use Rattle.conditions.specs.Setup.{setup_of}
use Rattle.conditions.specs.Setups.{setups_of}
use Rattle.conditions.proofs.setup.+setting.Given as goal

abbrev pub invariant-setups_of-loop-exec : goal.invariant-setups_of-loop-exec
invariant-setups_of-loop-exec l = l.all ≡ setups_of (map (setup_of l.account) (take l.exec-index l.execs))
