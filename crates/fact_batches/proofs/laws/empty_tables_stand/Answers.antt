use Rattle.fact_batches.proofs.EmptyLemmas.{nothing_stands, mark_stands}
use Rattle.fact_batches.proofs.laws.empty_tables_stand.Goals as goal

pub returns-clause-nothing : goal.returns-clause-nothing
returns-clause-nothing c = nothing_stands c.args.moment

pub returns-clause-mark : goal.returns-clause-mark
returns-clause-mark c = mark_stands c.args.moment
