use Rattle.std.proofs.Common.{◌≡◌, ℕ, List, [], drop, take, map}
use Rattle.realm_fields.specs.Reading.{is_among}
use Rattle.realm_file.specs.Rules.{doubled_from}
use Rattle.realm_file.proofs.DoubledLemmas.{has}
use Rattle.realm_file.proofs.rules.first_doubled.Given as goal

abbrev pub invariant-items : goal.invariant-items
invariant-items g l =
    record {
      same : doubled_from g.T.Named.name (map g.T.Named.name (take l.i l.items)) l.i (drop l.i l.items)
          ≡ doubled_from g.T.Named.name [] 0 l.items;
      seen : (q : List ℕ) → has q l.seen.keys
          ≡ is_among (map g.T.Named.name (take l.i l.items)) q;
    }
