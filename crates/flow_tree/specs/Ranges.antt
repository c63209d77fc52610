-- The levels that conditions may have, and their ages.
use Rattle.std.specs.Prelude.{Bool, true, ◌&&◌, nat_le}
use Rattle.flow_tree.specs.declared.exec.Cond.{Cond}
use Rattle.flow_tree.specs.declared.exec.Cond.TheVariants as cond
use Rattle.flow_tree.specs.Places.{Shape, Leaf, Test, Flow}

-- a level is 1 to 1,000, and its age is at most 31,536,000 seconds
abbrev pub is_in_range : Cond → Bool
is_in_range (cond.Role role negate) = true
is_in_range cond.Configured = true
is_in_range (cond.Level level age) = nat_le 1 level && nat_le level 1000 && nat_le age 31536000

-- where it is a condition of a level, it is in range
abbrev pub is_level_in_range : Shape → Bool
is_level_in_range (Leaf kind) = true
is_level_in_range (Test c) = is_in_range c
is_level_in_range Flow = true
