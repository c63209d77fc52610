use Rattle.std.proofs.Common.{refl, ◌≡◌, inr, ap, arith, Err}
use Rattle.std.proofs.lemmas.Cmp.{nat_list_cmp_total}
use Rattle.keeper_rows.specs.Applied.{token_key}
use Rattle.sqlite.specs.Held.{state}
use Rattle.sql_base.specs.Told.{token_of}
use Rattle.sql_sessions.specs.Values.{token_shown, token_in}
use Rattle.sql_loads.specs.Fits.{TokenFits}
use Rattle.sql_loads.proofs.Loads.{rows_told, keys_differ, rows_numbered}
use Rattle.sql_base.specs.declared.fault.Fault.TheVariants.{Failed}
use Rattle.sql_loads.proofs.Causes.{tokens_rise, token_rowids}
use Rattle.sql_loads.proofs.tokens.load_tokens.Goals as goal

pub returns-clause-told : goal.returns-clause-told
returns-clause-told g c clean =
    rows_told token_shown ((state g.S.Store c.args.tx.now.conn.now).now.trees 7) c.in_ok-rows.rows.items (c.in_ok-rows.ensures.ok clean) nat_list_cmp_total token_key token_of token_in (λ r. refl) TokenFits c.in_ok-tokens.tokens
    (rw c.as_slice.ensures.value at c.in_ok-tokens.ensures.told)

pub returns-clause-kept : goal.returns-clause-kept
returns-clause-kept g c clean =
    let rows = (state g.S.Store c.args.tx.now.conn.now).now.trees 7 in
    let answer = c.in_ok-rows.rows.items in
    let listed = c.in_ok-rows.ensures.ok clean in
    record {
      numbered = rows_numbered token_shown rows answer listed 5 (λ r. refl) (rw c.as_slice-2.ensures.value at c.in_ok-check_rowids.ensures.ok);
      apart = keys_differ token_shown rows answer listed nat_list_cmp_total token_key token_of token_in (λ r. refl) TokenFits c.in_ok-tokens.tokens (rw c.as_slice.ensures.value at c.in_ok-tokens.ensures.told);
    }

pub returns-in_err-tokens-clause-cause : goal.returns-in_err-tokens-clause-cause
returns-in_err-tokens-clause-cause g c clean failed = inr (λ well.
    let all = tokens_rise ((state g.S.Store c.args.tx.now.conn.now).now.trees 7) c.in_ok-rows.rows.items (c.in_ok-rows.ensures.ok clean) well in
    let is : c.in_err-tokens.field-0.0 ≡ Failed = grind (arith, failed, c.from_residual-in_err-tokens.ensures) in
    (rw c.as_slice.ensures.value at c.in_err-tokens.ensures.cause) (ap Err is) all.0 all.1)

pub returns-in_err-check_rowids-clause-cause : goal.returns-in_err-check_rowids-clause-cause
returns-in_err-check_rowids-clause-cause g c clean failed = inr (λ well.
    let all = token_rowids ((state g.S.Store c.args.tx.now.conn.now).now.trees 7) c.in_ok-rows.rows.items (c.in_ok-rows.ensures.ok clean) well in
    let is : c.in_err-check_rowids.field-0.0 ≡ Failed = grind (arith, failed, c.from_residual-in_err-check_rowids.ensures) in
    (rw c.as_slice-2.ensures.value at c.in_err-check_rowids.ensures.cause) (ap Err is) all.0 all.1)
