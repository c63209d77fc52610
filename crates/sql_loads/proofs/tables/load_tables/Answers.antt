use Rattle.std.proofs.Common.{◌≡◌, inl, inr, ap, arith, Err}
use Rattle.sqlite.specs.Held.{state}
use Rattle.sqlite.specs.State.{HasCleanDisk}
use Rattle.sql_base.specs.declared.fault.Fault.TheVariants.{Failed}
use Rattle.sql_loads.specs.Tables.{TablesFit, UsesFit}
use Rattle.sql_loads.proofs.Chains.{cause_later}
use Rattle.sql_loads.proofs.tables.load_tables.Goals as goal

pub returns-in_err-users-clause-cause : goal.returns-in_err-users-clause-cause
returns-in_err-users-clause-cause g c clean failed =
    let is : c.in_err-users.field-0.0 ≡ Failed = grind (arith, failed, c.from_residual.ensures) in
    let cause = c.in_err-users.ensures.cause clean (ap Err is) in
    elim cause [ inl refused ↦ inl refused | inr none ↦ inr (λ all. none all.users) ]

pub returns-in_err-uses-clause-cause : goal.returns-in_err-uses-clause-cause
returns-in_err-uses-clause-cause g c clean failed =
    let is : c.in_err-uses.field-0.0 ≡ Failed = grind (arith, failed, c.from_residual-in_err-uses.ensures) in
    let cause = c.in_err-uses.ensures.cause clean (ap Err is) in
    let old = state g.S.Store c.args.tx.now.conn.now in
    let first = state g.S.Store c.load_users.new.tx.conn.now in
    let second = state g.S.Store c.load_uses.new.tx.conn.now in
    let mid : HasCleanDisk first = omega (arith, c.load_uses.ensures.survives.clean) in
    cause_later old first second UsesFit TablesFit (λ db all. all.uses) c.load_users.ensures.survives (c.in_ok-users.ensures.same mid) cause
