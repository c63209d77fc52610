use Rattle.root_asks.proofs.SerialLemmas.{opening_leaves_room}
use Rattle.root_asks.proofs.new_tab.new_tab_answer.Goals as goal

pub visit_answer-requires : goal.visit_answer-requires
visit_answer-requires g c =
    record { serials = rw (c.facts_with-more.ensures.facts, c.as_slice.ensures.items, c.in_ok-opened.ensures) (opening_leaves_room c.args.setting.now c.args.place.now c.requires.next c.requires.serials) }
