use Rattle.std.proofs.Common.{◌≡◌, ◌++◌, length}
use Rattle.std.specs.Vec.Iter.{into_iter_items}
use Rattle.keeper_rows.specs.Applied.{applied}
use Rattle.keeper_core.specs.Held.{tables_in, HasRoom}
use Rattle.keeper_core.proofs.held.Held.apply.Given as goal

abbrev pub invariant-loop-change : goal.invariant-loop-change
invariant-loop-change l = record {
  next : (goal.iterator-loop-change).can_next l.change-iterator;
  finite : (goal.iterator-loop-change).is_finite l.change-iterator;
  all : l.yielded ++ into_iter_items l.change-iterator ≡ l.fn.changes;
  room : HasRoom l.self (length (into_iter_items l.change-iterator));
  rows : tables_in l.self ≡ applied l.yielded (tables_in l.initial.self);
}
