use Rattle.std.proofs.Common.{◌≡◌}
use Rattle.toml.specs.View.{members_view}
use Rattle.std.specs.Prelude.{map}
use Rattle.realm_fields.specs.Reading.{is_among, only_keys}
use Rattle.realm_fields.proofs.keys.check_keys.Given as goal

abbrev pub invariant-members : goal.invariant-members
invariant-members l =
    record {
      can : (goal.iterator-members).can_next l.key-iterator;
      finite : (goal.iterator-members).is_finite l.key-iterator;
      same : only_keys (is_among (map (λ k. k.now) l.keys)) l.path (members_view l.key-iterator) ≡ only_keys (is_among (map (λ k. k.now) l.keys)) l.path (members_view l.table.entries);
    }
