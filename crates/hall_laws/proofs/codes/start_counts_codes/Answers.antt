use Rattle.hall_laws.proofs.Unmarked.{start_counts}
use Rattle.hall_laws.proofs.codes.start_counts_codes.Goals as goal

pub returns : goal.returns
returns c = record { counted = start_counts c.args.base.now c.args.realm.now c.args.added.now c.requires.start c.requires.counted }
