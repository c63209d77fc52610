use Rattle.std.proofs.Common.{ap, sym, ◌∙◌}
use Rattle.hall_answers.specs.Setting.{setting_at}
use Rattle.web_laws.specs.Told.{tells_name}
use Rattle.web_laws.proofs.DueLemmas.{ask_plain}
use Rattle.web_laws.proofs.texts.due_texts_are_plain.Goals as goal

pub returns : goal.returns
returns c =
    let solved = c.args.solved.now in
    record { texts = ask_plain (setting_at c.args.facts.now c.args.moment c.args.draws) solved.ask solved.finding (ap tells_name (sym c.ask.ensures.ask) ∙ c.know_told.ensures.name) }
