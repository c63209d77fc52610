use Rattle.keeper_rules.proofs.RepeatLemmas.{no_users, one_user}
use Rattle.keeper_rules.proofs.users.users_of.Goals as goal

pub loop-account-init : goal.loop-account-init
loop-account-init c = no_users c.new-users.result c.new-users.ensures.empty

pub loop-account-preserved : goal.loop-account-preserved
loop-account-preserved c =
    let updates = rw c.natural.ensures.value at c.in_ok-insert.ensures.updates in
    one_user c.loop-account.users c.insert.new.self c.args.accounts.now c.loop-account.account-index c.account-item.result c.account-item.is c.loop-account-test.true c.loop-account.invariant updates
