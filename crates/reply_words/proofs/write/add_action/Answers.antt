use Rattle.reply_words.proofs.TextLemmas.{two_texts}
use Rattle.reply_words.proofs.write.add_action.Goals as goal

pub returns : goal.returns
returns c =
    let first = rw (c.id_text.ensures.text, c.action_words.ensures) at c.in_ok-add_fields.ensures in
    two_texts _ _ _ _ _ first c.in_ok-add_shown.ensures
