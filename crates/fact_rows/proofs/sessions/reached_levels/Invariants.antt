use Rattle.std.proofs.Common.{◌≡◌, map, take}
use Rattle.fact_rows.specs.Rows.{reached}
use Rattle.fact_rows.proofs.sessions.reached_levels.Given as goal

abbrev pub invariant-loop-level : goal.invariant-loop-level
invariant-loop-level l = l.all.items ≡ map reached (take l.level-index l.levels)
