use Rattle.std.proofs.Common.{arith}
use Rattle.root_states.proofs.RoomLemmas.{few_tabs, tabs_counted}
use Rattle.fact_scans.proofs.Counting.{short_length}
use Rattle.root_states.proofs.count.has_tab_room.Goals as goal

pub returns-then-saturating_add-lt-MOST_TABS : goal.returns-then-saturating_add-lt-MOST_TABS
returns-then-saturating_add-lt-MOST_TABS g c =
    let parts = c.parts.result in
    let sum = rw c.len.ensures.value at c.saturating_add.ensures in
    let short = short_length c.args.facts.now parts.0.now.list parts.1.now c.saturating_add.result 262144
    c.parts.ensures.facts sum c.if-saturating_add-lt-MOST_TABS.true (omega arith) in
    record { value = few_tabs c.args.now c.args.facts.now short }

pub returns : goal.returns
returns g c = record { value = tabs_counted c.args.now c.args.facts.now c.fold_by.result c.fold_by.ensures.value }
