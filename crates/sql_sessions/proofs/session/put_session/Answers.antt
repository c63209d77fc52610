use Rattle.std.proofs.Common.{arith, rules, Ok, w64, FitsSigned}
use Rattle.std.proofs.lemmas.Int.{to_z-of_z}
use Rattle.sqlite.specs.State.{HasCleanDisk}
use Rattle.sqlite.specs.Held.{state}
use Rattle.sql_sessions.proofs.SessionLemmas.{put_changes}
use Rattle.sql_sessions.proofs.session.put_session.Goals as goal

pub returns-clause-ok : goal.returns-clause-ok
returns-clause-ok g c clean =
    let old = state g.S.Store c.args.tx.now.conn.now in
    let new = state g.S.Store c.execute.new.self.conn.now in
    let early : HasCleanDisk old = omega (arith, c.execute.ensures.survives.clean) in
    let ready = c.requires.ready early in
    let row = c.args.row.now in
    let user : FitsSigned w64 row.user = search rules in
    let opened : FitsSigned w64 row.opened = search rules in
    let seen : FitsSigned w64 row.seen = search rules in
    let idle : FitsSigned w64 row.idle = search rules in
    let max : FitsSigned w64 row.max = search rules in
    put_changes old new row (Ok c.in_ok-execute.field-0) ready (rw (
      c.params-to_sql.ensures,
      c.params-to_sql-2.ensures,
      c.params-to_sql-3.ensures,
      c.params-to_sql-4.ensures,
      c.params-to_sql-5.ensures,
      c.params-to_sql-6.ensures,
      c.params-to_sql-7.ensures,
      c.as_str.ensures.text,
      c.as_str-2.ensures.text,
      to_z-of_z w64 row.user user,
      to_z-of_z w64 row.opened opened,
      to_z-of_z w64 row.seen seen,
      to_z-of_z w64 row.idle idle,
      to_z-of_z w64 row.max max,
    ) at (c.in_ok-execute.ensures.runs clean ready.inside))
