use Rattle.std.proofs.Common.{codes}
use Rattle.toml.specs.View.{table_view}
use Rattle.realm_print.proofs.FieldLemmas.{plain_more, plain_some, plain_string}
use Rattle.realm_print.proofs.FlowLemmas.{role_back}
use Rattle.realm_print.proofs.execs.role_table.Goals as goal

pub returns-clause-read : goal.returns-clause-read
returns-clause-read c =
    rw (c.in_ok-put_some.ensures, c.in_ok-put.ensures, c.in_ok-role.ensures, c.name_text.ensures.text)
    (role_back c.args.exec.now c.args.role.now c.args.negate _ (table_view c.in_ok-table.table) c.requires c.in_ok-table.ensures.read
    c.name_text.ensures.name c.unusual.ensures.read)

pub returns-clause-plain : goal.returns-clause-plain
returns-clause-plain c =
    rw (c.in_ok-put_some.ensures, c.in_ok-put.ensures, c.in_ok-role.ensures)
    (plain_some (codes "negate") _ _ 0 c.unusual.ensures.plain
    (plain_more (codes "role") _ _ 0 (plain_string 0 c.name_text.result.now) c.in_ok-table.ensures.plain))
