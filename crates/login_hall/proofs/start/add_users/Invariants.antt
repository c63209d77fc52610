use Rattle.std.proofs.Common.{◌≡◌, ◌≤◌, ◌+◌, ◌*◌, ◌++◌, drop}
use Rattle.facts.specs.Serials.{last_stored_serial}
use Rattle.login_hall.specs.Start.{users_facts}
use Rattle.login_hall.proofs.start.add_users.Given as goal

abbrev pub invariant-loop-given : goal.invariant-loop-given
invariant-loop-given g l = record {
  added : l.added ++ users_facts l.facts l.serial (drop l.given-index l.users) ≡ l.initial.added ++ users_facts l.facts (last_stored_serial l.facts) l.users;
  few : l.serial ≤ last_stored_serial l.facts + 4 * l.given-index;
}
