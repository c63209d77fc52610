use Rattle.std.proofs.Common.{◌≡◌, inl, inr, ap, arith, Err}
use Rattle.sqlite.specs.Held.{state}
use Rattle.sqlite.specs.State.{HasCleanDisk}
use Rattle.sql_base.specs.declared.fault.Fault.TheVariants.{Failed}
use Rattle.sql_loads.specs.Loads.{TokensFit, MarksFit}
use Rattle.sql_loads.specs.Tables.{UsesFit}
use Rattle.sql_loads.proofs.Chains.{cause_later, survives_both, unchanged_both}
use Rattle.sql_loads.proofs.tables.load_uses.Goals as goal

pub returns-in_err-sessions-clause-cause : goal.returns-in_err-sessions-clause-cause
returns-in_err-sessions-clause-cause g c clean failed =
    let is : c.in_err-sessions.field-0.0 ≡ Failed = grind (arith, failed, c.from_residual.ensures) in
    let cause = c.in_err-sessions.ensures.cause clean (ap Err is) in
    elim cause [ inl refused ↦ inl refused | inr none ↦ inr (λ all. none all.sessions) ]

pub returns-in_err-tokens-clause-cause : goal.returns-in_err-tokens-clause-cause
returns-in_err-tokens-clause-cause g c clean failed =
    let is : c.in_err-tokens.field-0.0 ≡ Failed = grind (arith, failed, c.from_residual-in_err-tokens.ensures) in
    let cause = c.in_err-tokens.ensures.cause clean (ap Err is) in
    let old = state g.S.Store c.args.tx.now.conn.now in
    let first = state g.S.Store c.load_sessions.new.tx.conn.now in
    let second = state g.S.Store c.load_tokens.new.tx.conn.now in
    let mid : HasCleanDisk first = omega (arith, c.load_tokens.ensures.survives.clean) in
    cause_later old first second (λ db. TokensFit (db 7)) UsesFit (λ db all. all.tokens) c.load_sessions.ensures.survives (c.in_ok-sessions.ensures.same mid) cause

pub returns-in_err-marks-clause-cause : goal.returns-in_err-marks-clause-cause
returns-in_err-marks-clause-cause g c clean failed =
    let is : c.in_err-marks.field-0.0 ≡ Failed = grind (arith, failed, c.from_residual-in_err-marks.ensures) in
    let cause = c.in_err-marks.ensures.cause clean (ap Err is) in
    let old = state g.S.Store c.args.tx.now.conn.now in
    let first = state g.S.Store c.load_sessions.new.tx.conn.now in
    let second = state g.S.Store c.load_tokens.new.tx.conn.now in
    let third = state g.S.Store c.load_marks.new.tx.conn.now in
    let later : HasCleanDisk second = omega (arith, c.load_marks.ensures.survives.clean) in
    let mid : HasCleanDisk first = omega (arith, later, c.load_tokens.ensures.survives.clean) in
    cause_later old second third (λ db. MarksFit (db 9)) UsesFit (λ db all. all.marks) (survives_both old first second c.load_sessions.ensures.survives c.load_tokens.ensures.survives)
    (unchanged_both old first second (c.in_ok-sessions.ensures.same mid) (c.in_ok-tokens.ensures.same later)) cause
