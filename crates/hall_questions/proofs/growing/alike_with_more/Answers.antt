use Rattle.hall_questions.proofs.GrowingAnswers.{grows}
use Rattle.hall_questions.proofs.growing.alike_with_more.Goals as goal

pub returns : goal.returns
returns c = record { alike = grows c.args.one.now c.args.other.now c.args.more.now c.requires.alike }
