use Rattle.one_time.proofs.Regrouping.{no_bits}
use Rattle.one_time.proofs.regrouped.Regrouped.new.Goals as goal

pub returns-clause-value : goal.returns-clause-value
returns-clause-value c = λ w. no_bits w c.new.result.items c.new.ensures.items
