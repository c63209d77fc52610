use Rattle.std.proofs.Common.{◌≡◌, drop}
use Rattle.flow_tree.specs.Levels.{lent_levels, age_among}
use Rattle.flow_tree.proofs.live.+aging.Given as goal

abbrev pub invariant-first_age-loop-exec : goal.invariant-first_age-loop-exec
invariant-first_age-loop-exec l = age_among l.level (lent_levels l.requirement (drop l.exec-index l.execs)) ≡ age_among l.level (lent_levels l.requirement l.execs)
