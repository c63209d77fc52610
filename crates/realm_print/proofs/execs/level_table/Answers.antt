use Rattle.std.proofs.Common.{codes}
use Rattle.toml.specs.View.{table_view}
use Rattle.realm_print.proofs.FieldLemmas.{plain_more, plain_number}
use Rattle.realm_print.proofs.FlowLemmas.{level_back}
use Rattle.realm_print.proofs.execs.level_table.Goals as goal

pub returns-clause-read : goal.returns-clause-read
returns-clause-read c =
    rw (c.in_ok-put-2.ensures, c.in_ok-put.ensures, c.from.ensures, c.number.ensures)
    (level_back c.args.exec.now c.args.level c.args.age (table_view c.in_ok-table.table) c.requires.body c.in_ok-table.ensures.read c.requires.range)

pub returns-clause-plain : goal.returns-clause-plain
returns-clause-plain c =
    rw (c.in_ok-put-2.ensures, c.in_ok-put.ensures, c.from.ensures, c.number.ensures)
    (plain_more (codes "age") _ _ 0 (plain_number 0 c.args.age)
    (plain_more (codes "level") _ _ 0 (plain_number 0 c.args.level) c.in_ok-table.ensures.plain))
