use Rattle.std.proofs.Common.{sym, arith, rules}
use Rattle.decimal_text.proofs.NumberLemmas.{number-decimal, number-none}
use Rattle.decimal_text.proofs.number.Goals as goal

pub returns-in-Some-clause-same : goal.returns-in-Some-clause-same
returns-in-Some-clause-same c = sym (number-decimal c.args.last c.in-Some.n c.args.text.now (omega arith) (search rules) (search rules))

pub returns-in_default-clause-same : goal.returns-in_default-clause-same
returns-in_default-clause-same c = sym (number-none c.args.last c.args.text.now (search rules))

pub returns-in_default-2-clause-same : goal.returns-in_default-2-clause-same
returns-in_default-2-clause-same c = sym (number-none c.args.last c.args.text.now (search rules))
