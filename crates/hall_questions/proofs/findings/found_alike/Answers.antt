use Rattle.hall_questions.proofs.FoundAlike.{found_alike}
use Rattle.hall_questions.proofs.findings.found_alike.Goals as goal

pub returns : goal.returns
returns c = record { finding = found_alike c.args.one.now c.args.other.now c.requires.alike c.args.moment c.args.ask.now c.args.draws.now }
