use Rattle.std.proofs.Common.{rules}
use Rattle.asks.specs.Passwords.{password_use}
use Rattle.login_hall.proofs.FoundLemmas.{is_keepable}
use Rattle.login_hall.proofs.due.due.Goals as goal

pub due_admin-requires-clause-keepable : goal.due_admin-requires-clause-keepable
due_admin-requires-clause-keepable g c = is_keepable (password_use c.args.solved.now.ask) c.finding-finding.result.now (search rules)
