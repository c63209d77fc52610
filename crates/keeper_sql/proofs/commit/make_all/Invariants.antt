use Rattle.std.proofs.Common.{◌≡◌, take}
use Rattle.keeper_rows.specs.Applied.{applied}
use Rattle.sqlite.specs.Held.{state}
use Rattle.sqlite.specs.State.{HasCleanDisk, Survives}
use Rattle.sql_base.specs.Ready.{Changes}
use Rattle.sql_base.specs.Told.{tables_in}
use Rattle.keeper_sql.proofs.commit.make_all.Given as goal

abbrev pub invariant-loop-change : goal.invariant-loop-change
invariant-loop-change g l =
    let old = state g.S.Store l.initial.tx.conn.now in
    let now = state g.S.Store l.tx.conn.now in
    record {
      same_reference : l.tx.conn.ghost_name ≡ l.initial.tx.conn.ghost_name;
      survives : Survives old now (λ _. ⊥);
      changes : HasCleanDisk now → Changes old now (applied (take l.change-index l.changes) (tables_in old.now.trees));
    }
