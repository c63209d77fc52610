use Rattle.std.proofs.Common.{take}
use Rattle.toml.specs.View.{items_view}
use Rattle.realm_print.proofs.ListLemmas.{AreReadAs, AreItemsPlain}
use Rattle.realm_print.proofs.lists.print_list.Given as goal

abbrev pub invariant-items : goal.invariant-items
invariant-items g l =
    record {
      read : AreReadAs g.T.Reads.meant (items_view l.values.items) (take l.item-index l.items);
      plain : AreItemsPlain g.T.Prints.deep (items_view l.values.items);
    }
