use Rattle.hall_laws.proofs.CodeSerials.{mark_counted}
use Rattle.hall_laws.proofs.codes.mark_counts_codes.Goals as goal

pub returns : goal.returns
returns c = record { counted = mark_counted c.args.mark.now c.requires.mark }
