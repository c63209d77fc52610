use Rattle.hall_laws.proofs.LiveSessions.{ended_isnt, idle_isnt, old_isnt, it_lives}
use Rattle.hall_laws.proofs.levels.session_lives.Goals as goal

pub returns : goal.returns
returns c =
    let facts = c.args.facts.now in
    let root = c.args.root in
    let tab = c.args.tab in
    let moment = c.args.moment in
    let begun = c.args.begun in
    record {
      ended = ended_isnt facts root tab moment begun c.requires.begun;
      idle = idle_isnt facts root tab moment begun c.requires.begun;
      old = old_isnt facts root tab moment begun c.requires.begun;
      live = it_lives facts root tab moment begun c.requires.begun;
    }
