use Rattle.std.proofs.Common.{◌≡◌, ◌++◌, length}
use Rattle.root_states.specs.Outlived.{outlived_ids}
use Rattle.root_states.proofs.sessions.add_more.Given as goal

abbrev pub invariant-loop-fact : goal.invariant-loop-fact
invariant-loop-fact l = l.initial.ended ++ outlived_ids l.now l.more ≡ l.ended ++ outlived_ids l.now l.rest

abbrev pub decreases-loop-fact : goal.decreases-loop-fact
decreases-loop-fact l = length l.rest
