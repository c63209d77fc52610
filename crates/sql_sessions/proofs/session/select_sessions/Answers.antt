use Rattle.std.proofs.Common.{◌≡◌, arith}
use Rattle.sqlite.specs.State.{HasCleanDisk}
use Rattle.sqlite.specs.Held.{state}
use Rattle.sql_base.specs.Faults.{fault_of}
use Rattle.sql_base.specs.declared.fault.Fault.TheVariants.{Failed}
use Rattle.sql_sessions.proofs.SessionLemmas.{select_lists, select_refused}
use Rattle.sql_sessions.proofs.session.select_sessions.Goals as goal

pub returns-clause-ok : goal.returns-clause-ok
returns-clause-ok g c clean =
    let old = state g.S.Store c.args.tx.now.conn.now in
    let new = state g.S.Store c.query_all.new.self.conn.now in
    let early : HasCleanDisk old = omega (arith, c.query_all.ensures.survives.clean) in
    (select_lists old new c.in_ok-query_all.field-0.items (c.requires.begun early).schema_is (c.in_ok-query_all.ensures.ok clean)).0

pub returns-clause-same : goal.returns-clause-same
returns-clause-same g c clean =
    let old = state g.S.Store c.args.tx.now.conn.now in
    let new = state g.S.Store c.query_all.new.self.conn.now in
    let early : HasCleanDisk old = omega (arith, c.query_all.ensures.survives.clean) in
    (select_lists old new c.in_ok-query_all.field-0.items (c.requires.begun early).schema_is (c.in_ok-query_all.ensures.ok clean)).1

pub returns-in_err-query_all-clause-cause : goal.returns-in_err-query_all-clause-cause
returns-in_err-query_all-clause-cause g c clean failed =
    let old = state g.S.Store c.args.tx.now.conn.now in
    let new = state g.S.Store c.query_all.new.self.conn.now in
    let early : HasCleanDisk old = omega (arith, c.query_all.ensures.survives.clean) in
    let error = c.in_err-query_all.field-0.0 in
    let is : fault_of error ≡ Failed = grind (arith, failed, c.from_residual.ensures) in
    select_refused old new error (c.requires.begun early) is (c.in_err-query_all.ensures.err clean)
