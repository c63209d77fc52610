use Rattle.std.proofs.Common.{◌≡◌, take}
use Rattle.toml.specs.View.{table_view}
use Rattle.realm_print.specs.Levels.{level_members}
use Rattle.realm_print.proofs.levels.level_table.Given as goal

abbrev pub invariant-levels : goal.invariant-levels
invariant-levels l = table_view l.table ≡ level_members (take l.level-index l.levels)
