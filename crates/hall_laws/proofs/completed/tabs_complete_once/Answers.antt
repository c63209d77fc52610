use Rattle.hall_laws.proofs.CompletingOnce.{ask_completes_once}
use Rattle.hall_laws.proofs.completed.tabs_complete_once.Goals as goal

pub returns : goal.returns
returns c = record { once = ask_completes_once c.args.setting.now c.args.ask.now c.args.finding.now c.requires.once }
