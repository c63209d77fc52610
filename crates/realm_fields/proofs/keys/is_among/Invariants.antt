use Rattle.std.proofs.Common.{◌≡◌, drop}
use Rattle.std.specs.Prelude.{map}
use Rattle.realm_fields.specs.Reading.{is_among}
use Rattle.realm_fields.proofs.keys.is_among.Given as goal

abbrev pub invariant-keys : goal.invariant-keys
invariant-keys l =
    is_among (map (λ k. k.now) (drop l.known-index l.keys)) l.key ≡ is_among (map (λ k. k.now) l.keys) l.key
