use Rattle.std.proofs.Common.{◌≡◌, ◌+◌, ◌*◌, drop}
use Rattle.toml.specs.Data.{depth, items_depth, members_depth}
use Rattle.toml.specs.View.{view, items_view, table_view}
use Rattle.realm_file.specs.Execs.{execs_from}
use Rattle.realm_fields.proofs.ItemLemmas.{behind}
use Rattle.realm_file.proofs.execs.+execs.Given as goal

abbrev pub invariant-list_execs-values : goal.invariant-list_execs-values
invariant-list_execs-values l =
    behind l.execs (execs_from l.path l.i (items_view (drop l.i l.values))) ≡ execs_from l.path 0 (items_view l.values)

-- how far the data go down, and how many calls lie between two levels
abbrev pub decreases-read_execs : goal.decreases-read_execs
decreases-read_execs l = 6 * depth (view l.value.now) + 1

abbrev pub decreases-list_execs : goal.decreases-list_execs
decreases-list_execs l = 6 * items_depth (items_view l.values.now) + 6

abbrev pub decreases-read_exec : goal.decreases-read_exec
decreases-read_exec l = 6 * depth (view l.value.now) + 5

abbrev pub decreases-exec_fields : goal.decreases-exec_fields
decreases-exec_fields l = 6 * members_depth (table_view l.table.now) + 4

abbrev pub decreases-read_body : goal.decreases-read_body
decreases-read_body l = 6 * members_depth (table_view l.table.now) + 3

abbrev pub decreases-read_steps : goal.decreases-read_steps
decreases-read_steps l = 6 * members_depth (table_view l.table.now) + 2
