use Rattle.std.proofs.Common.{◌≡◌, take}
use Rattle.std.specs.Prelude.{filter}
use Rattle.facts.specs.Actions.{is_pending}
use Rattle.fact_rows.proofs.found.pending_of.Given as goal

abbrev pub invariant-loop-action : goal.invariant-loop-action
invariant-loop-action g l = l.pending.items ≡ filter (is_pending l.user l.facts) (take l.action-index l.action-items)
