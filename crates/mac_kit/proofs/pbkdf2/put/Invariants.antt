use Rattle.std.proofs.Common.{◌≡◌, ◌+◌, ◌++◌, take}
use Rattle.mac_kit.proofs.pbkdf2.put.Given as goal

abbrev pub invariant-bytes : goal.invariant-bytes
invariant-bytes l = take (l.at + l.i) l.out ≡ take l.at l.fn.out ++ take l.i l.bytes
