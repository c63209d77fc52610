use Rattle.fact_batches.proofs.StandLemmas.{empty_where}
use Rattle.fact_batches.proofs.laws.batch_is_empty_where_nothing_is_stored.Goals as goal

pub returns : goal.returns
returns c = record { empty = empty_where c.args.moment c.args.before.now c.args.added.now }
