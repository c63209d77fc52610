use Rattle.std.proofs.Common.{◌≡◌, ◌++◌, ◌-◌, take}
use Rattle.std.specs.Prelude.{replicate}
use Rattle.realm_data.proofs.password_hash.padded.Given as goal

abbrev pub invariant-bytes : goal.invariant-bytes
invariant-bytes l = l.place ≡ take l.i l.text ++ replicate (64 - l.i) 0
