use Rattle.hall_laws.proofs.Unmarked.{ask_counts}
use Rattle.hall_laws.proofs.codes.ask_counts_codes.Goals as goal

pub returns : goal.returns
returns c = record { counted = ask_counts c.args.setting.now c.args.ask.now c.args.finding.now c.requires.counted }
