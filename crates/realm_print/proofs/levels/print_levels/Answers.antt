use Rattle.toml.proofs.Views.{view-Table}
use Rattle.realm_print.proofs.FieldLemmas.{plain_table}
use Rattle.realm_print.proofs.TableLemmas.{levels_listed, levels_plain}
use Rattle.realm_print.proofs.levels.print_levels.Goals as goal

pub returns-clause-read : goal.returns-clause-read
returns-clause-read c = λ path. rw (view-Table, c.in_ok-level_table.ensures) (levels_listed c.args.levels.now c.requires.range path)

pub returns-clause-plain : goal.returns-clause-plain
returns-clause-plain c = rw (view-Table, c.in_ok-level_table.ensures) (plain_table 0 _ (levels_plain c.args.levels.now))
