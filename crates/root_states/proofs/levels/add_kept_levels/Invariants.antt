use Rattle.std.proofs.Common.{◌≡◌, ◌++◌, take}
use Rattle.std.specs.List.{flat_map}
use Rattle.facts.specs.Levels.{level_recorded}
use Rattle.root_states.proofs.levels.add_kept_levels.Given as goal

abbrev pub invariant-loop-i : goal.invariant-loop-i
invariant-loop-i g l = l.levels ≡ l.initial.levels ++ flat_map (level_recorded l.session) (take l.i l.chronicle.list)
