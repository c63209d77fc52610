use Rattle.std.proofs.Common.{◌≡◌, true}
use Rattle.facts.specs.Realms.{has_realm}
use Rattle.login_hall.specs.HallState.{facts_of}
use Rattle.login_hall.proofs.sample_hall.enter_all.Given as goal

abbrev pub invariant-loop-line : goal.invariant-loop-line
invariant-loop-line g l = has_realm (facts_of l.hall) ≡ true
