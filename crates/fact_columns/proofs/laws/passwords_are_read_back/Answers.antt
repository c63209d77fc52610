use Rattle.fact_columns.proofs.BodyLemmas.{password_back}
use Rattle.fact_columns.proofs.laws.passwords_are_read_back.Goals as goal

pub returns : goal.returns
returns c = record { hash = password_back c.args.hash.now c.requires.range }
