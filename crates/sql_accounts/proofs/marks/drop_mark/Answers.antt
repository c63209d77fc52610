use Rattle.std.proofs.Common.{arith}
use Rattle.sqlite.specs.State.{HasCleanDisk}
use Rattle.sqlite.specs.Held.{state}
use Rattle.sql_accounts.proofs.MarkLemmas.{drop_done}
use Rattle.sql_accounts.proofs.marks.drop_mark.Goals as goal

pub returns-clause-ok : goal.returns-clause-ok
returns-clause-ok g c clean =
    let old = state g.S.Store c.args.tx.now.conn.now in
    let new = state g.S.Store c.execute.new.self.conn.now in
    let early : HasCleanDisk old = omega (arith, c.execute.ensures.survives.clean) in
    let ready = c.requires.ready early in
    drop_done old new ready c.in_ok-execute.field-0
    (rw (c.params-to_sql.ensures) at (c.in_ok-execute.ensures.runs clean ready.inside))
