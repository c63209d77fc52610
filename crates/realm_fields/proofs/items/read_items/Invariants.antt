use Rattle.std.proofs.Common.{◌≡◌, drop, length, true}
use Rattle.std.specs.List.{list_all}
use Rattle.toml.specs.View.{items_view}
use Rattle.realm_fields.specs.Reading.{items_from}
use Rattle.realm_fields.proofs.ItemLemmas.{behind}
use Rattle.realm_fields.proofs.items.read_items.Given as goal

abbrev pub invariant-values : goal.invariant-values
invariant-values g l =
    record {
      told : behind l.items (items_from g.T.Reads.meant l.path l.i (items_view (drop l.i l.values)))
          ≡ items_from g.T.Reads.meant l.path 0 (items_view l.values);
      fits : list_all g.T.Reads.fits l.items ≡ true;
      len : length l.items ≡ l.i;
    }
