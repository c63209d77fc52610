use Rattle.std.proofs.Common.{◌∙◌, ◌+◌, sym, ap, ◌≡◌, inr, arith, Err}
use Rattle.std.specs.Prelude.{option_map}
use Rattle.sqlite.specs.Held.{state}
use Rattle.sql_loads.proofs.RealmLoads.{realms_numbered, realms_rows, realms_untold, realms_told, realms_natural}
use Rattle.sql_base.specs.declared.fault.Fault.TheVariants.{Failed}
use Rattle.sql_loads.proofs.Causes.{realms_rise}
use Rattle.sql_loads.proofs.realms.load_realms.Goals as goal

pub returns-clause-rows : goal.returns-clause-rows
returns-clause-rows g c clean =
    c.in_ok-rows_of.ensures.told ∙ realms_rows ((state g.S.Store c.args.tx.now.conn.now).now.trees 0) c.in_ok-rows.rows.items c.in_ok-realms.realms (c.in_ok-rows.ensures.ok clean) (rw c.as_slice.ensures.value at c.in_ok-realms.ensures.told)

pub returns-clause-untold : goal.returns-clause-untold
returns-clause-untold g c clean =
    c.number_of-untold.ensures.value ∙ ap (option_map (λ at. at + 1)) (rw c.as_slice-2.ensures.items at c.first_untold.ensures.place)
    ∙ realms_untold ((state g.S.Store c.args.tx.now.conn.now).now.trees 0) c.in_ok-rows.rows.items c.in_ok-realms.realms (c.in_ok-rows.ensures.ok clean) (rw c.as_slice.ensures.value at c.in_ok-realms.ensures.told)

pub returns-clause-told : goal.returns-clause-told
returns-clause-told g c clean all =
    c.in_ok-rows_of.ensures.told ∙ realms_told ((state g.S.Store c.args.tx.now.conn.now).now.trees 0) c.in_ok-rows.rows.items c.in_ok-realms.realms (c.in_ok-rows.ensures.ok clean) (rw c.as_slice.ensures.value at c.in_ok-realms.ensures.told) all

pub returns-clause-kept : goal.returns-clause-kept
returns-clause-kept g c clean =
    realms_numbered ((state g.S.Store c.args.tx.now.conn.now).now.trees 0) c.in_ok-rows.rows.items c.in_ok-realms.realms (c.in_ok-rows.ensures.ok clean) (rw c.as_slice.ensures.value at c.in_ok-realms.ensures.told)

pub returns-clause-natural : goal.returns-clause-natural
returns-clause-natural g c clean none =
    let rows = (state g.S.Store c.args.tx.now.conn.now).now.trees 0 in
    let read = rw c.as_slice.ensures.value at c.in_ok-realms.ensures.told in
    let untold = c.number_of-untold.ensures.value ∙ ap (option_map (λ at. at + 1)) (rw c.as_slice-2.ensures.items at c.first_untold.ensures.place)
    ∙ realms_untold rows c.in_ok-rows.rows.items c.in_ok-realms.realms (c.in_ok-rows.ensures.ok clean) read in
    realms_natural rows c.in_ok-rows.rows.items c.in_ok-realms.realms (c.in_ok-rows.ensures.ok clean) read (sym untold ∙ none)

pub returns-in_err-realms-clause-cause : goal.returns-in_err-realms-clause-cause
returns-in_err-realms-clause-cause g c clean failed = inr (λ well.
    let all = realms_rise ((state g.S.Store c.args.tx.now.conn.now).now.trees 0) c.in_ok-rows.rows.items (c.in_ok-rows.ensures.ok clean) well in
    let is : c.in_err-realms.field-0.0 ≡ Failed = grind (arith, failed, c.from_residual-in_err-realms.ensures) in
    (rw c.as_slice.ensures.value at c.in_err-realms.ensures.cause) (ap Err is) all.0 all.1)
