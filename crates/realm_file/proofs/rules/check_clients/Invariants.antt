use Rattle.std.proofs.Common.{◌≡◌, drop}
use Rattle.realm_file.specs.Rules.{clients_bound}
use Rattle.realm_file.proofs.rules.check_clients.Given as goal

abbrev pub invariant-clients : goal.invariant-clients
invariant-clients l = clients_bound l.flow l.i (drop l.i l.clients) ≡ clients_bound l.flow 0 l.clients
