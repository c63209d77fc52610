use Rattle.std.proofs.Common.{codes, arith}
use Rattle.toml.specs.View.{view, table_view}
use Rattle.realm_print.proofs.FieldLemmas.{plain_more, more_room}
use Rattle.realm_print.proofs.FlowLemmas.{flow_back}
use Rattle.realm_print.proofs.execs.flow_table.Goals as goal

pub returns-clause-read : goal.returns-clause-read
returns-clause-read c =
    rw c.in_ok-put.ensures (flow_back c.args.exec.now (view c.args.steps) (table_view c.in_ok-table.table) c.requires c.in_ok-table.ensures.read)

pub returns-clause-plain : goal.returns-clause-plain
returns-clause-plain c =
    λ most plain. rw c.in_ok-put.ensures
    (plain_more (codes "steps") (view c.args.steps) _ most plain (more_room 0 most _ c.in_ok-table.ensures.plain (omega arith)))
