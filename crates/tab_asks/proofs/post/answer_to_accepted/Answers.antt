use Rattle.tab_asks.proofs.SerialLemmas.{accepted_leaves_room}
use Rattle.tab_asks.proofs.post.answer_to_accepted.Goals as goal

pub tab_answer-requires : goal.tab_answer-requires
tab_answer-requires g c =
    record { serials = rw (c.facts_with-more.ensures.facts, c.as_slice-2.ensures.items, c.in_ok-accepted.ensures) (accepted_leaves_room c.args.setting.now c.args.known.now c.args.form.now c.args.finding.now c.args.user c.args.credential c.requires.serials) }
