use Rattle.std.proofs.Common.{take}
use Rattle.keeper_rules.specs.Misfits.{AreUsers}
use Rattle.keeper_rules.proofs.users.users_of.Given as goal

abbrev pub invariant-loop-account : goal.invariant-loop-account
invariant-loop-account l = AreUsers l.users (take l.account-index l.accounts)
