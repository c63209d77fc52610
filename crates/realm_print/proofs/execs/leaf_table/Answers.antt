use Rattle.std.proofs.lemmas.Result.{IfOk-weaker}
use Rattle.toml.specs.View.{table_view}
use Rattle.realm_print.proofs.FlowLemmas.{leaf_back}
use Rattle.realm_print.proofs.execs.leaf_table.Goals as goal

pub returns-clause-read : goal.returns-clause-read
returns-clause-read c =
    IfOk-weaker c.head_table.result _ _ (λ t h. leaf_back c.args.exec.now c.args.kind (table_view t) c.requires h) c.head_table.ensures.read
