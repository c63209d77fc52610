use Rattle.std.proofs.Common.{◌≡◌, drop}
use Rattle.std.specs.Prelude.{map}
use Rattle.ask_pairs.specs.Lists.{all_of, joined}
use Rattle.ask_pairs.proofs.ListLemmas.{behind}
use Rattle.ask_pairs.proofs.lists.joined.Given as goal

abbrev pub invariant-loop-part : goal.invariant-loop-part
invariant-loop-part g l =
    behind l.items (all_of g.T.Item.meant (map (λ part. part.now) (drop l.part-index l.part-items)))
    ≡ joined g.T.Item.meant l.text
