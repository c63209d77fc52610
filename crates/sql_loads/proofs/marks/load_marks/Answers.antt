use Rattle.std.proofs.Common.{◌∙◌, ◌+◌, sym, ap, ◌≡◌, inr, arith, Err}
use Rattle.std.specs.Prelude.{option_map}
use Rattle.sqlite.specs.Held.{state}
use Rattle.sql_loads.proofs.MarkLoads.{marks_numbered, marks_rows, marks_unkeyed, marks_told, marks_keyed}
use Rattle.sql_base.specs.declared.fault.Fault.TheVariants.{Failed}
use Rattle.sql_loads.proofs.Causes.{marks_rise}
use Rattle.sql_loads.proofs.marks.load_marks.Goals as goal

pub returns-clause-rows : goal.returns-clause-rows
returns-clause-rows g c clean =
    (rw c.as_slice-3.ensures.items at c.in_ok-rows_of.ensures.told) ∙ marks_rows ((state g.S.Store c.args.tx.now.conn.now).now.trees 9) c.in_ok-rows.rows.items c.in_ok-marks.marks (c.in_ok-rows.ensures.ok clean) (rw c.as_slice.ensures.value at c.in_ok-marks.ensures.told)

pub returns-clause-unkeyed : goal.returns-clause-unkeyed
returns-clause-unkeyed g c clean =
    c.number_of.ensures.value ∙ ap (option_map (λ at. at + 1)) (rw c.as_slice-2.ensures.items at c.first_unkeyed.ensures.place)
    ∙ marks_unkeyed ((state g.S.Store c.args.tx.now.conn.now).now.trees 9) c.in_ok-rows.rows.items c.in_ok-marks.marks (c.in_ok-rows.ensures.ok clean) (rw c.as_slice.ensures.value at c.in_ok-marks.ensures.told)

pub returns-clause-told : goal.returns-clause-told
returns-clause-told g c clean all =
    (rw c.as_slice-3.ensures.items at c.in_ok-rows_of.ensures.told) ∙ marks_told ((state g.S.Store c.args.tx.now.conn.now).now.trees 9) c.in_ok-rows.rows.items c.in_ok-marks.marks (c.in_ok-rows.ensures.ok clean) (rw c.as_slice.ensures.value at c.in_ok-marks.ensures.told) all

pub returns-clause-kept : goal.returns-clause-kept
returns-clause-kept g c clean =
    marks_numbered ((state g.S.Store c.args.tx.now.conn.now).now.trees 9) c.in_ok-rows.rows.items c.in_ok-marks.marks (c.in_ok-rows.ensures.ok clean) (rw c.as_slice.ensures.value at c.in_ok-marks.ensures.told)

pub returns-clause-keyed : goal.returns-clause-keyed
returns-clause-keyed g c clean none =
    let rows = (state g.S.Store c.args.tx.now.conn.now).now.trees 9 in
    let read = rw c.as_slice.ensures.value at c.in_ok-marks.ensures.told in
    let unkeyed = c.number_of.ensures.value ∙ ap (option_map (λ at. at + 1)) (rw c.as_slice-2.ensures.items at c.first_unkeyed.ensures.place)
    ∙ marks_unkeyed rows c.in_ok-rows.rows.items c.in_ok-marks.marks (c.in_ok-rows.ensures.ok clean) read in
    marks_keyed rows c.in_ok-rows.rows.items c.in_ok-marks.marks (c.in_ok-rows.ensures.ok clean) read (sym unkeyed ∙ none)

pub returns-in_err-marks-clause-cause : goal.returns-in_err-marks-clause-cause
returns-in_err-marks-clause-cause g c clean failed = inr (λ well.
    let all = marks_rise ((state g.S.Store c.args.tx.now.conn.now).now.trees 9) c.in_ok-rows.rows.items (c.in_ok-rows.ensures.ok clean) well in
    let is : c.in_err-marks.field-0.0 ≡ Failed = grind (arith, failed, c.from_residual-in_err-marks.ensures) in
    (rw c.as_slice.ensures.value at c.in_err-marks.ensures.cause) (ap Err is) all.0 all.1)
