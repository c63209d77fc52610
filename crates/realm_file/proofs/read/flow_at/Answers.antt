use Rattle.std.proofs.Common.{codes, []}
use Rattle.toml.specs.View.{table_view}
use Rattle.realm_file.proofs.ExecLemmas.{flow_in_range}
use Rattle.realm_file.proofs.read.flow_at.Goals as goal

pub returns-clause-names : goal.returns-clause-names
returns-clause-names c = (flow_in_range [] (codes "flow") (table_view c.args.table.now) c.execs_at.result c.execs_at.ensures).0

pub returns-clause-range : goal.returns-clause-range
returns-clause-range c = (flow_in_range [] (codes "flow") (table_view c.args.table.now) c.execs_at.result c.execs_at.ensures).1
