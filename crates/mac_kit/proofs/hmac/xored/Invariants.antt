use Rattle.std.proofs.Common.{◌≡◌, length, take}
use Rattle.mac_kit.specs.Hmac.{xored}
use Rattle.mac_kit.proofs.hmac.xored.Given as goal

abbrev pub invariant-bytes : goal.invariant-bytes
invariant-bytes g l = record {
  size : length l.out ≡ g.row.N;
  done : take l.i l.out ≡ xored (take l.i l.first) (take l.i l.second);
}
