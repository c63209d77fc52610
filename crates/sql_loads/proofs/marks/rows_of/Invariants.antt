use Rattle.std.proofs.Common.{◌≡◌, map, take}
use Rattle.sql_loads.specs.Values.{mark_row}
use Rattle.sql_loads.proofs.marks.rows_of.Given as goal

abbrev pub invariant-loop-mark : goal.invariant-loop-mark
invariant-loop-mark l = l.rows ≡ map mark_row (take l.mark-index l.marks)
