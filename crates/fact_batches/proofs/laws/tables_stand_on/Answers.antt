use Rattle.fact_batches.proofs.StandLemmas.{stands_on}
use Rattle.fact_batches.proofs.laws.tables_stand_on.Goals as goal

pub returns : goal.returns
returns c = record { stand = stands_on c.args.tables.now c.args.before.now c.args.added.now c.args.changed c.args.moment c.requires.stand c.requires.plain }
