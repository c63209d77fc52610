use Rattle.std.proofs.Common.{◌≡◌, Some, take, map, List, ℕ, Bor}
use Rattle.keeper_columns.specs.Lists.{read_all}
use Rattle.keeper_columns.proofs.lists.read_all.Given as goal

abbrev pub invariant-loop-part : goal.invariant-loop-part
invariant-loop-part g l =
    read_all g.T.ListItem.item (map (λ (part : Bor (List ℕ)). part.now) (take l.part-index l.parts)) ≡ Some l.items.items
