use Rattle.std.proofs.Common.{[], rules}
use Rattle.web_laws.specs.Filled.{typed_as}
use Rattle.web_laws.proofs.PairLemmas.{bytes_fit}
use Rattle.web_laws.proofs.PostLemmas.{action_back, empty_text}
use Rattle.web_laws.proofs.forms.action_is_read_back.Goals as goal

pub returns : goal.returns
returns c =
    record {
      read = action_back c.args.root c.args.tab c.args.code c.args.action (typed_as [] c.args.password.now c.args.value.now)
          (search rules) (search rules) (search rules) (search rules)
          empty_text (record { bytes = bytes_fit c.args.password.now c.type_inv.password; utf8 = c.utf8.password }) (record { bytes = bytes_fit c.args.value.now c.type_inv.value; utf8 = c.utf8.value });
    }
