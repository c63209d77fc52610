use Rattle.hall_laws.proofs.CompletingOnce.{completed_through}
use Rattle.hall_laws.proofs.completed.tabs_complete_once_in_a_history.Goals as goal

pub returns : goal.returns
returns c = record { once = completed_through c.args.base.now c.args.front.now c.args.more.now c.requires.legal c.requires.once }
