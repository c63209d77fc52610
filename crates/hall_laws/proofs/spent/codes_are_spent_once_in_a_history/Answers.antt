use Rattle.hall_laws.proofs.SpendingOnce.{once_through}
use Rattle.hall_laws.proofs.spent.codes_are_spent_once_in_a_history.Goals as goal

pub returns : goal.returns
returns c = record { once = once_through c.args.base.now c.args.front.now c.args.more.now c.requires.legal c.requires.once }
