use Rattle.std.proofs.Common.{◌≡◌, map, take}
use Rattle.sqlite.specs.declared.types.Value.TheVariants.{Int}
use Rattle.sqlite.specs.Order.{column}
use Rattle.sql_loads.proofs.reading.read_numbers.Given as goal

abbrev pub invariant-loop-row : goal.invariant-loop-row
invariant-loop-row l = map Int l.numbers ≡ map (λ row. column row l.fn.at) (take l.row-index l.rows)
