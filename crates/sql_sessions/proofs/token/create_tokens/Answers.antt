use Rattle.std.proofs.Common.{arith, Ok}
use Rattle.sqlite.specs.State.{HasCleanDisk}
use Rattle.sqlite.specs.Held.{state}
use Rattle.sql_sessions.proofs.TokenLemmas.{create_makes}
use Rattle.sql_sessions.proofs.token.create_tokens.Goals as goal

pub returns-clause-ok : goal.returns-clause-ok
returns-clause-ok g c clean =
    let old = state g.S.Store c.args.tx.now.conn.now in
    let new = state g.S.Store c.execute.new.self.conn.now in
    let early : HasCleanDisk old = omega (arith, c.execute.ensures.survives.clean) in
    let begun = c.requires.begun early in
    create_makes old new (Ok c.in_ok-execute.field-0) begun (c.in_ok-execute.ensures.runs clean begun.inside)
