use Rattle.std.proofs.Common.{codes, refl}
use Rattle.toml.specs.View.{view}
use Rattle.toml.proofs.Views.{view-Table}
use Rattle.realm_print.proofs.FieldLemmas.{begun, more}
use Rattle.realm_print.proofs.TableLemmas.{client_back}
use Rattle.realm_print.proofs.users.ClientPrints.print.Goals as goal

pub returns-clause-read : goal.returns-clause-read
returns-clause-read c =
    let none = begun _ c.new-table.ensures.empty in
    let id = more (codes "id") (view c.in_ok-id.id) _ _ _ _ c.in_ok-put.ensures refl none in
    let level = more (codes "level") _ _ _ _ _ c.in_ok-put-2.ensures c.from.ensures id in
    λ path. rw (view-Table, level) (client_back c.args.self.now (view c.in_ok-id.id) c.requires c.in_ok-id.ensures.read path)
