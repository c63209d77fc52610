use Rattle.std.proofs.Common.{◌≡◌, ◌≤◌, take, length}
use Rattle.facts.specs.Accounts.{account_facts}
use Rattle.facts.specs.Places.{last_of}
use Rattle.fact_walks.proofs.holds.last_held_of_accounts.Given as goal

abbrev pub invariant-loop-end : goal.invariant-loop-end
invariant-loop-end g l = record {
  within : l.end ≤ length (account_facts l.chronicle.list);
  later : last_of (g.P.Hold.held l.hold) (account_facts l.chronicle.list) ≡ last_of (g.P.Hold.held l.hold) (take l.end (account_facts l.chronicle.list));
}

abbrev pub decreases-loop-end : goal.decreases-loop-end
decreases-loop-end g l = l.end
