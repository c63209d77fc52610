use Rattle.std.proofs.Common.{arith}
use Rattle.std.proofs.lemmas.Str.Pattern.{split_once_first}
use Rattle.login_desk.proofs.WordLemmas.{only_name}
use Rattle.login_desk.proofs.command.name_and_value.Goals as goal

pub returns-in-None : goal.returns-in-None
returns-in-None c = only_name c.args.word.now (rw c.in-None.is at (split_once_first 61 c.args.word.now c.split_once.result c.split_once.ensures.cases (omega arith)))
