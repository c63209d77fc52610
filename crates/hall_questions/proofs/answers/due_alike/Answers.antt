use Rattle.hall_questions.proofs.AsksAlike.{ask_alike}
use Rattle.hall_questions.proofs.answers.due_alike.Goals as goal

pub returns : goal.returns
returns c = record { answer = ask_alike c.args.one.now c.args.other.now c.requires.alike c.args.moment c.args.draws.now c.args.ask.now c.args.finding.now }
