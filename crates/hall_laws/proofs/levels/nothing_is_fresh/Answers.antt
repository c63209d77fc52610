use Rattle.hall_laws.proofs.FreshLevels.{stale_all, cookie_false}
use Rattle.hall_laws.proofs.levels.nothing_is_fresh.Goals as goal

pub returns : goal.returns
returns c =
    let facts = c.args.facts.now in
    let moment = c.args.moment in
    let known = c.args.known in
    let who = c.args.who in
    let tree = c.args.tree.now in
    record {
      stale = stale_all facts moment known who tree c.requires.none c.args.level c.args.age;
      cookie = cookie_false facts moment known who tree c.requires.none;
    }
