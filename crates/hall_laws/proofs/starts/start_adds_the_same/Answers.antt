use Rattle.hall_laws.proofs.StartFacts.{start_once}
use Rattle.hall_laws.proofs.starts.start_adds_the_same.Goals as goal

pub returns : goal.returns
returns c = record { same = start_once c.args.base.now c.args.realm.now c.args.one.now c.args.other.now c.requires.one c.requires.other }
