use Rattle.std.proofs.Common.{◌≡◌, length}
use Rattle.ask_pairs.specs.Credentials.{has_replacement}
use Rattle.ask_pairs.proofs.credentials.has_replacement.Given as goal

abbrev pub invariant-loop-more : goal.invariant-loop-more
invariant-loop-more l = has_replacement l.rest ≡ has_replacement l.text

abbrev pub decreases-loop-more : goal.decreases-loop-more
decreases-loop-more l = length l.rest
