use Rattle.keeper_sql.proofs.EndLemmas.{unmoved}
use Rattle.keeper_sql.proofs.ToldLemmas.{commits, stays}
use Rattle.sqlite.specs.Held.{state}
use Rattle.std.proofs.Common.{refl}
use Rattle.keeper_sql.proofs.keeper.commit_known.Goals as goal

pub returns-in-Ok-clause-ok : goal.returns-in-Ok-clause-ok
returns-in-Ok-clause-ok g c =
    rw (c.if-known.true, c.in-Ok.is) (commits g.S.Store c.in-Ok.conn c.commit_all.new.conn c.commit_all.ensures.survives.clean c.args.changes.now c.commit_all.result c.commit_all.ensures.done)

pub returns-in-Ok-clause-err : goal.returns-in-Ok-clause-err
returns-in-Ok-clause-err g c =
    rw (c.if-known.true, c.in-Ok.is) (stays g.S.Store c.in-Ok.conn c.commit_all.new.conn c.commit_all.ensures.survives.clean c.commit_all.result c.commit_all.ensures.none)

pub returns-in-Ok-clause-endures : goal.returns-in-Ok-clause-endures
returns-in-Ok-clause-endures g c = rw c.in-Ok.is c.commit_all.ensures.survives

pub returns-in-Ok-2-clause-endures : goal.returns-in-Ok-2-clause-endures
returns-in-Ok-2-clause-endures g c = rw c.in-Ok.is (unmoved (state g.S.Store c.in-Ok.conn) _)

pub returns-in-Err-clause-endures : goal.returns-in-Err-clause-endures
returns-in-Err-clause-endures g c = rw c.in-Err.is refl
