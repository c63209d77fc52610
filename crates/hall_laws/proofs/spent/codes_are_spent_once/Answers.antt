use Rattle.hall_laws.proofs.SpendingOnce.{ask_once}
use Rattle.hall_laws.proofs.spent.codes_are_spent_once.Goals as goal

pub returns : goal.returns
returns c = record { once = ask_once c.args.setting.now c.args.ask.now c.args.finding.now c.requires.once }
