use Rattle.std.proofs.Common.{◌≡◌, take, None}
use Rattle.flow_tree.specs.Faults.{first_breaking}
use Rattle.flow_tree.specs.Places.{places_at}
use Rattle.flow_tree.specs.Standing.{depth_of, before_of}
use Rattle.flow_tree.proofs.search.+searching.Given as goal

abbrev pub invariant-first_broken-loop-i : goal.invariant-first_broken-loop-i
invariant-first_broken-loop-i l = first_breaking l.rule (before_of l.before) (places_at (depth_of l.before) (take l.i l.execs)) ≡ None
