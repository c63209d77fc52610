use Rattle.std.proofs.Common.{◌≡◌, ◌++◌, ◌-◌, take}
use Rattle.std.specs.Prelude.{replicate}
use Rattle.mac_kit.proofs.hmac.filled.Given as goal

abbrev pub invariant-bytes : goal.invariant-bytes
invariant-bytes g l = l.block ≡ take l.i l.text ++ replicate (g.row.B - l.i) 0
