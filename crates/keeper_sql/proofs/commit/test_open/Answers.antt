use Rattle.sqlite.specs.Held.{state}
use Rattle.keeper_sql.proofs.EndLemmas.{on_err, not_run}
use Rattle.keeper_sql.proofs.commit.test_open.Goals as goal

pub returns-in_err-_statement-clause-err : goal.returns-in_err-_statement-clause-err
returns-in_err-_statement-clause-err g c clean =
    let old = state g.S.Store c.args.tx.now.conn.now in
    let new = state g.S.Store c.prepare.new.self.conn.now in
    on_err c.from_residual.result (not_run old new _ _ (c.in_err-_statement.ensures.err clean))
