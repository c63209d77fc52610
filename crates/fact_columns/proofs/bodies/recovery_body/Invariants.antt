use Rattle.std.proofs.Common.{◌≡◌, take}
use Rattle.fact_columns.specs.Bodies.{recovery_body}
use Rattle.fact_columns.proofs.bodies.recovery_body.Given as goal

abbrev pub invariant-loop-digest : goal.invariant-loop-digest
invariant-loop-digest l = l.out.items ≡ recovery_body (take l.digest-index l.digest-items)
