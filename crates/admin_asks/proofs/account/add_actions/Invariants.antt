use Rattle.std.proofs.Common.{◌≡◌, ◌++◌, take}
use Rattle.admin_asks.specs.Account.{action_facts}
use Rattle.admin_asks.proofs.account.add_actions.Given as goal

abbrev pub invariant-loop-kind : goal.invariant-loop-kind
invariant-loop-kind l = l.added ≡ l.initial.added ++ action_facts l.user (take l.kind-index l.actions)
