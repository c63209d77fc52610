use Rattle.hall_laws.proofs.TabFolds.{opening_is, page_is, name_is, completed_is, session_is}
use Rattle.hall_laws.proofs.tab_history.tab_state_tells.Goals as goal

pub returns : goal.returns
returns c =
    let facts = c.args.facts.now in
    let root = c.args.root in
    let tab = c.args.tab in
    record {
      opening = opening_is root tab facts;
      page = page_is root tab facts;
      named = name_is root tab facts;
      completed = completed_is root tab facts;
      session = session_is root tab facts;
    }
