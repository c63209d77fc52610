use Rattle.std.proofs.lemmas.Result.{IfOk-weaker}
use Rattle.toml.specs.View.{table_view}
use Rattle.realm_print.proofs.FlowLemmas.{configured_back}
use Rattle.realm_print.proofs.execs.configured_table.Goals as goal

pub returns-clause-read : goal.returns-clause-read
returns-clause-read c =
    IfOk-weaker c.head_table.result _ _ (λ t h. configured_back c.args.exec.now (table_view t) c.requires h) c.head_table.ensures.read
