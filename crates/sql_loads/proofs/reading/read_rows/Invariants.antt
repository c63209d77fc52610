use Rattle.std.proofs.Common.{◌≡◌, map, take}
use Rattle.std.specs.List.{AllByRecursion}
use Rattle.sql_loads.proofs.reading.read_rows.Given as goal

abbrev pub invariant-loop-row : goal.invariant-loop-row
invariant-loop-row g l = (l.told ≡ map g.R.Shown.told_by (take l.row-index l.rows)) × AllByRecursion g.R.Shown.fits (take l.row-index l.rows)
