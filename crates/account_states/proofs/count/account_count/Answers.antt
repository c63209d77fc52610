use Rattle.std.proofs.Common.{◌∙◌, ap, sym}
use Rattle.account_states.specs.Count.{account_count}
use Rattle.account_states.proofs.CountLemmas.{gains_all, set_counts}
use Rattle.account_states.proofs.count.account_count.Goals as goal

pub returns : goal.returns
returns g c =
    let all = gains_all c.new-seen.result c.note_kept.new.seen c.note_more.new.seen c.parts.result.0.now.list c.parts.result.1.now
    c.in_ok-note_kept.ensures c.in_ok-note_more.ensures in
    c.len.ensures.len
    ∙ set_counts c.new-seen.result c.note_more.new.seen _ c.new-seen.ensures.empty all c.len.ensures.ordered
    ∙ ap account_count (sym c.parts.ensures.facts)
