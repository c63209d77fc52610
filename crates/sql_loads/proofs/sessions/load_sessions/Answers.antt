use Rattle.std.proofs.Common.{refl, ◌≡◌, inr, ap, arith, Err}
use Rattle.std.proofs.lemmas.Cmp.{nat_list_cmp_total}
use Rattle.keeper_rows.specs.Applied.{session_key}
use Rattle.sqlite.specs.Held.{state}
use Rattle.sql_base.specs.Told.{session_of}
use Rattle.sql_sessions.specs.Values.{session_shown, session_in}
use Rattle.sql_loads.specs.Fits.{SessionFits}
use Rattle.sql_loads.proofs.Loads.{rows_told, keys_differ, rows_numbered}
use Rattle.sql_base.specs.declared.fault.Fault.TheVariants.{Failed}
use Rattle.sql_loads.proofs.Causes.{sessions_rise, session_rowids}
use Rattle.sql_loads.proofs.sessions.load_sessions.Goals as goal

pub returns-clause-told : goal.returns-clause-told
returns-clause-told g c clean =
    rows_told session_shown ((state g.S.Store c.args.tx.now.conn.now).now.trees 5) c.in_ok-rows.rows.items (c.in_ok-rows.ensures.ok clean) nat_list_cmp_total session_key session_of session_in (λ r. refl) SessionFits c.in_ok-sessions.sessions
    (rw c.as_slice.ensures.value at c.in_ok-sessions.ensures.told)

pub returns-clause-kept : goal.returns-clause-kept
returns-clause-kept g c clean =
    let rows = (state g.S.Store c.args.tx.now.conn.now).now.trees 5 in
    let answer = c.in_ok-rows.rows.items in
    let listed = c.in_ok-rows.ensures.ok clean in
    record {
      numbered = rows_numbered session_shown rows answer listed 7 (λ r. refl) (rw c.as_slice-2.ensures.value at c.in_ok-check_rowids.ensures.ok);
      apart = keys_differ session_shown rows answer listed nat_list_cmp_total session_key session_of session_in (λ r. refl) SessionFits c.in_ok-sessions.sessions (rw c.as_slice.ensures.value at c.in_ok-sessions.ensures.told);
    }

pub returns-in_err-sessions-clause-cause : goal.returns-in_err-sessions-clause-cause
returns-in_err-sessions-clause-cause g c clean failed = inr (λ well.
    let all = sessions_rise ((state g.S.Store c.args.tx.now.conn.now).now.trees 5) c.in_ok-rows.rows.items (c.in_ok-rows.ensures.ok clean) well in
    let is : c.in_err-sessions.field-0.0 ≡ Failed = grind (arith, failed, c.from_residual-in_err-sessions.ensures) in
    (rw c.as_slice.ensures.value at c.in_err-sessions.ensures.cause) (ap Err is) all.0 all.1)

pub returns-in_err-check_rowids-clause-cause : goal.returns-in_err-check_rowids-clause-cause
returns-in_err-check_rowids-clause-cause g c clean failed = inr (λ well.
    let all = session_rowids ((state g.S.Store c.args.tx.now.conn.now).now.trees 5) c.in_ok-rows.rows.items (c.in_ok-rows.ensures.ok clean) well in
    let is : c.in_err-check_rowids.field-0.0 ≡ Failed = grind (arith, failed, c.from_residual-in_err-check_rowids.ensures) in
    (rw c.as_slice-2.ensures.value at c.in_err-check_rowids.ensures.cause) (ap Err is) all.0 all.1)
