use Rattle.std.proofs.Common.{◌≡◌, take}
use Rattle.login_progress.specs.Asked.{asked_of}
use Rattle.login_progress.proofs.asked.asked_of.Given as goal

abbrev pub invariant-loop-id : goal.invariant-loop-id
invariant-loop-id l = l.asked ≡ asked_of l.tree l.login (take l.id-index l.needs)
