use Rattle.std.proofs.Common.{arith, rules, w64, FitsSigned}
use Rattle.std.proofs.lemmas.Int.{to_z-of_z}
use Rattle.sqlite.specs.State.{HasCleanDisk}
use Rattle.sqlite.specs.Held.{state}
use Rattle.sql_accounts.proofs.AccountLemmas.{put_done}
use Rattle.sql_accounts.proofs.accounts.put_account.Goals as goal

pub returns-clause-ok : goal.returns-clause-ok
returns-clause-ok g c clean =
    let old = state g.S.Store c.args.tx.now.conn.now in
    let new = state g.S.Store c.execute.new.self.conn.now in
    let early : HasCleanDisk old = omega (arith, c.execute.ensures.survives.clean) in
    let ready = c.requires.ready early in
    let row = c.args.row.now in
    let id : FitsSigned w64 row.id = search rules in
    let enabled : FitsSigned w64 row.enabled = search rules in
    let count : FitsSigned w64 row.count = search rules in
    let last : FitsSigned w64 row.last = search rules in
    let until : FitsSigned w64 row.until = search rules in
    let permanent : FitsSigned w64 row.permanent = search rules in
    put_done old new ready row c.in_ok-execute.field-0 (rw (
      c.params-to_sql.ensures,
      c.params-to_sql-2.ensures,
      c.params-to_sql-3.ensures,
      c.params-to_sql-4.ensures,
      c.params-to_sql-5.ensures,
      c.params-to_sql-6.ensures,
      c.params-to_sql-7.ensures,
      c.params-to_sql-8.ensures,
      c.params-to_sql-9.ensures,
      c.as_str.ensures.text,
      c.as_str-2.ensures.text,
      c.as_str-3.ensures.text,
      to_z-of_z w64 row.id id,
      to_z-of_z w64 row.enabled enabled,
      to_z-of_z w64 row.count count,
      to_z-of_z w64 row.last last,
      to_z-of_z w64 row.until until,
      to_z-of_z w64 row.permanent permanent,
    )
    at (c.in_ok-execute.ensures.runs clean ready.inside))
