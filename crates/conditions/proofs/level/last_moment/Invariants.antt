use Rattle.std.proofs.Common.{◌≡◌, take}
use Rattle.conditions.specs.Truth.{last_moment}
use Rattle.conditions.proofs.level.last_moment.Given as goal

abbrev pub invariant-loop-reached : goal.invariant-loop-reached
invariant-loop-reached l = l.last ≡ last_moment l.level (take l.reached-index l.levels)
