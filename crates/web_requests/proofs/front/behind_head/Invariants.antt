use Rattle.std.proofs.Common.{◌≡◌, ◌≤◌, length}
use Rattle.web_requests.specs.Front.{behind_head}
use Rattle.web_requests.proofs.front.behind_head.Given as goal

abbrev pub invariant-loop-first : goal.invariant-loop-first
invariant-loop-first l = record { same : behind_head l.rest ≡ behind_head l.text; len : length l.rest ≤ length l.text }

abbrev pub decreases-loop-first : goal.decreases-loop-first
decreases-loop-first l = length l.rest
