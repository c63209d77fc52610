use Rattle.std.proofs.Common.{arith, Ok}
use Rattle.sqlite.specs.State.{HasCleanDisk}
use Rattle.sqlite.specs.Held.{state}
use Rattle.sql_sessions.proofs.SessionLemmas.{drop_changes}
use Rattle.sql_sessions.proofs.session.drop_session.Goals as goal

pub returns-clause-ok : goal.returns-clause-ok
returns-clause-ok g c clean =
    let old = state g.S.Store c.args.tx.now.conn.now in
    let new = state g.S.Store c.execute.new.self.conn.now in
    let early : HasCleanDisk old = omega (arith, c.execute.ensures.survives.clean) in
    let ready = c.requires.ready early in
    drop_changes old new c.args.id.now (Ok c.in_ok-execute.field-0) ready (rw (c.params-to_sql.ensures, c.as_str.ensures.text) at (c.in_ok-execute.ensures.runs clean ready.inside))
