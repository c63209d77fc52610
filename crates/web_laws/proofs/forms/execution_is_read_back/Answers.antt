use Rattle.std.proofs.Common.{rules}
use Rattle.web_laws.specs.Filled.{typed_as}
use Rattle.web_laws.proofs.PairLemmas.{bytes_fit}
use Rattle.web_laws.proofs.PostLemmas.{execution_back}
use Rattle.web_laws.proofs.forms.execution_is_read_back.Goals as goal

pub returns : goal.returns
returns c =
    record {
      read = execution_back c.args.root c.args.tab c.args.code c.args.kind c.args.id.now (typed_as c.args.name.now c.args.password.now c.args.value.now)
          (search rules) (search rules) (search rules) (search rules) (search rules) (search rules)
          (record { bytes = bytes_fit c.args.id.now c.type_inv.id; utf8 = c.utf8.id }) (record { bytes = bytes_fit c.args.name.now c.type_inv.name; utf8 = c.utf8.name }) (record { bytes = bytes_fit c.args.password.now c.type_inv.password; utf8 = c.utf8.password }) (record { bytes = bytes_fit c.args.value.now c.type_inv.value; utf8 = c.utf8.value });
    }
