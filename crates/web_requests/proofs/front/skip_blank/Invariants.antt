use Rattle.std.proofs.Common.{◌≡◌, ◌≤◌, length}
use Rattle.web_requests.specs.Front.{skip_blank}
use Rattle.web_requests.proofs.front.skip_blank.Given as goal

abbrev pub invariant-loop-more : goal.invariant-loop-more
invariant-loop-more l = record { same : skip_blank l.rest ≡ skip_blank l.text; len : length l.rest ≤ length l.text }

abbrev pub decreases-loop-more : goal.decreases-loop-more
decreases-loop-more l = length l.rest
