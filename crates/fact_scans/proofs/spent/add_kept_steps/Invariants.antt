use Rattle.std.proofs.Common.{◌≡◌, ◌++◌, take}
use Rattle.std.specs.List.{flat_map}
use Rattle.facts.specs.Spent.{step_spent}
use Rattle.fact_scans.proofs.spent.add_kept_steps.Given as goal

abbrev pub invariant-loop-i : goal.invariant-loop-i
invariant-loop-i g l = l.spent ≡ l.initial.spent ++ flat_map (step_spent l.serial) (take l.i l.chronicle.list)
