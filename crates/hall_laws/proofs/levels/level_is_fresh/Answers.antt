use Rattle.hall_laws.proofs.FreshLevels.{fresh_is, unreached_isnt, aged_isnt, zero_isnt}
use Rattle.hall_laws.proofs.levels.level_is_fresh.Goals as goal

pub returns : goal.returns
returns c =
    let facts = c.args.facts.now in
    let moment = c.args.moment in
    let known = c.args.known in
    let who = c.args.who in
    let tree = c.args.tree.now in
    let own = c.args.own in
    let level = c.args.level in
    let age = c.args.age in
    record {
      fresh = fresh_is facts moment known who tree own c.requires.live level age;
      unreached = unreached_isnt facts moment known who tree own c.requires.live level age;
      aged = aged_isnt facts moment known who tree own c.requires.live level age;
      never = zero_isnt facts moment known who tree own c.requires.live level;
    }
