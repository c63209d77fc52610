use Rattle.std.proofs.Common.{inr}
use Rattle.sqlite.specs.Held.{state}
use Rattle.sql_loads.proofs.NumberLoads.{secrets_told, secrets_numbered}
use Rattle.sql_loads.proofs.Causes.{secrets_rise}
use Rattle.sql_loads.proofs.secrets.load_secrets.Goals as goal

pub returns-clause-told : goal.returns-clause-told
returns-clause-told g c clean =
    secrets_told ((state g.S.Store c.args.tx.now.conn.now).now.trees 3) c.in_ok-rows.rows.items c.read_rising.result (c.in_ok-rows.ensures.ok clean) (rw c.as_slice.ensures.value at c.read_rising.ensures.told)

pub returns-clause-kept : goal.returns-clause-kept
returns-clause-kept g c clean =
    secrets_numbered ((state g.S.Store c.args.tx.now.conn.now).now.trees 3) c.in_ok-rows.rows.items c.read_rising.result (c.in_ok-rows.ensures.ok clean) (rw c.as_slice.ensures.value at c.read_rising.ensures.told)

pub returns-clause-cause : goal.returns-clause-cause
returns-clause-cause g c clean failed = inr (λ well.
    let all = secrets_rise ((state g.S.Store c.args.tx.now.conn.now).now.trees 3) c.in_ok-rows.rows.items (c.in_ok-rows.ensures.ok clean) well in
    (rw c.as_slice.ensures.value at c.read_rising.ensures.cause) failed all.0 all.1)
