use Rattle.std.proofs.Common.{inr}
use Rattle.sqlite.specs.Held.{state}
use Rattle.sql_loads.proofs.NumberLoads.{accounts_told, accounts_numbered}
use Rattle.sql_loads.proofs.Causes.{accounts_rise}
use Rattle.sql_loads.proofs.accounts.load_accounts.Goals as goal

pub returns-clause-told : goal.returns-clause-told
returns-clause-told g c clean =
    accounts_told ((state g.S.Store c.args.tx.now.conn.now).now.trees 1) c.in_ok-rows.rows.items c.read_rising.result (c.in_ok-rows.ensures.ok clean) (rw c.as_slice.ensures.value at c.read_rising.ensures.told)

pub returns-clause-kept : goal.returns-clause-kept
returns-clause-kept g c clean =
    accounts_numbered ((state g.S.Store c.args.tx.now.conn.now).now.trees 1) c.in_ok-rows.rows.items c.read_rising.result (c.in_ok-rows.ensures.ok clean) (rw c.as_slice.ensures.value at c.read_rising.ensures.told)

pub returns-clause-cause : goal.returns-clause-cause
returns-clause-cause g c clean failed = inr (λ well.
    let all = accounts_rise ((state g.S.Store c.args.tx.now.conn.now).now.trees 1) c.in_ok-rows.rows.items (c.in_ok-rows.ensures.ok clean) well in
    (rw c.as_slice.ensures.value at c.read_rising.ensures.cause) failed all.0 all.1)
