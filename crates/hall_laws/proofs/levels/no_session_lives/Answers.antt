use Rattle.hall_laws.proofs.LiveSessions.{none_lives}
use Rattle.hall_laws.proofs.levels.no_session_lives.Goals as goal

pub returns : goal.returns
returns c =
    record { none = none_lives c.args.facts.now c.args.root c.args.tab c.args.moment c.requires.none }
