use Rattle.std.proofs.Common.{◌≡◌, ◌++◌, map}
use Rattle.std.specs.Vec.Iter.{into_iter_items}
use Rattle.sql_loads.specs.Values.{realm_row}
use Rattle.sql_loads.proofs.realms.rows_of.Given as goal

abbrev pub invariant-loop-stored : goal.invariant-loop-stored
invariant-loop-stored l = record {
  next : (goal.iterator-loop-stored).can_next l.stored-iterator;
  finite : (goal.iterator-loop-stored).is_finite l.stored-iterator;
  all : l.yielded ++ into_iter_items l.stored-iterator ≡ l.fn.realms;
  rows : l.rows ≡ map realm_row l.yielded;
}
