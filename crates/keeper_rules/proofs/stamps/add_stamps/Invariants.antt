use Rattle.std.proofs.Common.{◌≡◌, ◌++◌, take, map}
use Rattle.keeper_rules.proofs.stamps.add_stamps.Given as goal

abbrev pub invariant-loop-row : goal.invariant-loop-row
invariant-loop-row g l = l.stamps.items ≡ l.initial.stamps.items ++ map g.R.Stamped.stamp (take l.row-index l.rows)
