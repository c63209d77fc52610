use Rattle.std.proofs.Common.{arith, rules, w64, FitsSigned}
use Rattle.std.proofs.lemmas.Int.{to_z-of_z}
use Rattle.sqlite.specs.State.{HasCleanDisk}
use Rattle.sqlite.specs.Held.{state}
use Rattle.sql_accounts.proofs.SecretLemmas.{put_done}
use Rattle.sql_accounts.proofs.secrets.put_secret.Goals as goal

pub returns-clause-ok : goal.returns-clause-ok
returns-clause-ok g c clean =
    let old = state g.S.Store c.args.tx.now.conn.now in
    let new = state g.S.Store c.execute.new.self.conn.now in
    let early : HasCleanDisk old = omega (arith, c.execute.ensures.survives.clean) in
    let ready = c.requires.ready early in
    let row = c.args.row.now in
    let serial : FitsSigned w64 row.serial = search rules in
    let user : FitsSigned w64 row.user = search rules in
    put_done old new ready row c.in_ok-execute.field-0 (rw (
      c.params-to_sql.ensures,
      c.params-to_sql-2.ensures,
      c.params-to_sql-3.ensures,
      c.params-to_sql-4.ensures,
      c.params-to_sql-5.ensures,
      c.as_str.ensures.text,
      c.as_str-2.ensures.text,
      c.as_slice.ensures.items,
      to_z-of_z w64 row.serial serial,
      to_z-of_z w64 row.user user,
    )
    at (c.in_ok-execute.ensures.runs clean ready.inside))
