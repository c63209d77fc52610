use Rattle.std.proofs.Common.{◌≡◌, inl, inr, ap, arith, Err}
use Rattle.sqlite.specs.Held.{state}
use Rattle.sqlite.specs.State.{HasCleanDisk}
use Rattle.sql_base.specs.declared.fault.Fault.TheVariants.{Failed}
use Rattle.sql_loads.specs.Loads.{AccountsFit, SecretsFit}
use Rattle.sql_loads.specs.Tables.{UsersFit}
use Rattle.sql_loads.proofs.Chains.{cause_later, survives_both, unchanged_both}
use Rattle.sql_loads.proofs.tables.load_users.Goals as goal

pub returns-in_err-realms-clause-cause : goal.returns-in_err-realms-clause-cause
returns-in_err-realms-clause-cause g c clean failed =
    let is : c.in_err-realms.field-0.0 ≡ Failed = grind (arith, failed, c.from_residual.ensures) in
    let cause = c.in_err-realms.ensures.cause clean (ap Err is) in
    elim cause [ inl refused ↦ inl refused | inr none ↦ inr (λ all. none all.realms) ]

pub returns-in_err-accounts-clause-cause : goal.returns-in_err-accounts-clause-cause
returns-in_err-accounts-clause-cause g c clean failed =
    let is : c.in_err-accounts.field-0.0 ≡ Failed = grind (arith, failed, c.from_residual-in_err-accounts.ensures) in
    let cause = c.in_err-accounts.ensures.cause clean (ap Err is) in
    let old = state g.S.Store c.args.tx.now.conn.now in
    let first = state g.S.Store c.load_realms.new.tx.conn.now in
    let second = state g.S.Store c.load_accounts.new.tx.conn.now in
    let mid : HasCleanDisk first = omega (arith, c.load_accounts.ensures.survives.clean) in
    cause_later old first second (λ db. AccountsFit (db 1)) UsersFit (λ db all. all.accounts) c.load_realms.ensures.survives (c.in_ok-realms.ensures.same mid) cause

pub returns-in_err-secrets-clause-cause : goal.returns-in_err-secrets-clause-cause
returns-in_err-secrets-clause-cause g c clean failed =
    let is : c.in_err-secrets.field-0.0 ≡ Failed = grind (arith, failed, c.from_residual-in_err-secrets.ensures) in
    let cause = c.in_err-secrets.ensures.cause clean (ap Err is) in
    let old = state g.S.Store c.args.tx.now.conn.now in
    let first = state g.S.Store c.load_realms.new.tx.conn.now in
    let second = state g.S.Store c.load_accounts.new.tx.conn.now in
    let third = state g.S.Store c.load_secrets.new.tx.conn.now in
    let later : HasCleanDisk second = omega (arith, c.load_secrets.ensures.survives.clean) in
    let mid : HasCleanDisk first = omega (arith, later, c.load_accounts.ensures.survives.clean) in
    cause_later old second third (λ db. SecretsFit (db 3)) UsersFit (λ db all. all.secrets) (survives_both old first second c.load_realms.ensures.survives c.load_accounts.ensures.survives)
    (unchanged_both old first second (c.in_ok-realms.ensures.same mid) (c.in_ok-accounts.ensures.same later)) cause
