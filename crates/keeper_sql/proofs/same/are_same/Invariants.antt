use Rattle.std.proofs.Common.{◌≡◌, take, length}
use Rattle.keeper_sql.proofs.same.are_same.Given as goal

abbrev pub invariant-loop-i : goal.invariant-loop-i
invariant-loop-i g l = record {
  lengths : length l.first ≡ length l.second;
  same : take l.i l.first ≡ take l.i l.second;
}
