use Rattle.std.proofs.Common.{◌≡◌, drop}
use Rattle.realm_data.specs.Realm.{are_apart}
use Rattle.realm_data.proofs.Apart.{are_new}
use Rattle.realm_data.proofs.realm_rules.are_apart.Given as goal

abbrev pub invariant-loop-item : goal.invariant-loop-item
invariant-loop-item g l =
    are_apart g.T.Named.name l.items ≡ are_new l.names.keys g.T.Named.name (drop l.item-index l.items)
