use Rattle.std.proofs.Common.{arith, w64}
use Rattle.std.proofs.lemmas.Int.{to_z-of_z}
use Rattle.sqlite.specs.State.{HasCleanDisk}
use Rattle.sqlite.specs.Held.{state}
use Rattle.sql_accounts.proofs.AccountLemmas.{drop_done}
use Rattle.sql_accounts.proofs.accounts.drop_account.Goals as goal

pub returns-clause-ok : goal.returns-clause-ok
returns-clause-ok g c clean =
    let old = state g.S.Store c.args.tx.now.conn.now in
    let new = state g.S.Store c.execute.new.self.conn.now in
    let early : HasCleanDisk old = omega (arith, c.execute.ensures.survives.clean) in
    let ready = c.requires.ready early in
    drop_done old new ready c.args.id c.in_ok-execute.field-0
    (rw (c.params-to_sql.ensures, to_z-of_z w64 c.args.id c.ranges.id) at (c.in_ok-execute.ensures.runs clean ready.inside))
