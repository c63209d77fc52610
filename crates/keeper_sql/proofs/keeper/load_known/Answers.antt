use Rattle.std.proofs.Common.{Ok, refl}
use Rattle.sqlite.specs.Held.{state}
use Rattle.sqlite.proofs.StateLemmas.{survives_then}
use Rattle.keeper_sql.proofs.ToldLemmas.{reads, stays_read}
use Rattle.keeper_sql.proofs.keeper.load_known.Goals as goal

pub returns-in_ok-ready-in-Ok-clause-told : goal.returns-in_ok-ready-in-Ok-clause-told
returns-in_ok-ready-in-Ok-clause-told g c =
    reads g.S.Store c.args.known c.in-Ok.conn c.ready.new.conn c.read_tables.new.conn c.read_tables.ensures.survives.clean c.ready.ensures.same c.read_tables.result c.read_tables.ensures.kept c.read_tables.ensures.told

pub returns-in_ok-ready-in-Ok-clause-stays : goal.returns-in_ok-ready-in-Ok-clause-stays
returns-in_ok-ready-in-Ok-clause-stays g c =
    rw c.in-Ok.is (stays_read g.S.Store c.args.known c.in-Ok.conn c.ready.new.conn c.read_tables.new.conn c.read_tables.ensures.survives.clean c.ready.ensures.same c.read_tables.result c.read_tables.ensures.kept)

pub returns-in_err-ready-in-Ok-clause-endures : goal.returns-in_err-ready-in-Ok-clause-endures
returns-in_err-ready-in-Ok-clause-endures g c = rw c.in-Ok.is c.ready.ensures.survives

pub returns-in_ok-ready-in-Ok-clause-endures : goal.returns-in_ok-ready-in-Ok-clause-endures
returns-in_ok-ready-in-Ok-clause-endures g c =
    rw c.in-Ok.is (survives_then (state g.S.Store c.in-Ok.conn) (state g.S.Store c.ready.new.conn) (state g.S.Store c.read_tables.new.conn) _ (λ _. ⊥) _ (λ _ db found. found) (λ _ db none. absurd none) c.ready.ensures.survives c.read_tables.ensures.survives)

pub returns-in-Err-clause-endures : goal.returns-in-Err-clause-endures
returns-in-Err-clause-endures g c = rw c.in-Err.is refl
