use Rattle.std.proofs.Common.{arith}
use Rattle.root_states.proofs.RoomLemmas.{short_room, few_room}
use Rattle.fact_scans.proofs.Counting.{short_length}
use Rattle.root_states.proofs.count.has_few_roots.Goals as goal

pub returns-then-saturating_add-lt-MOST_ROOTS : goal.returns-then-saturating_add-lt-MOST_ROOTS
returns-then-saturating_add-lt-MOST_ROOTS g c =
    let parts = c.parts.result in
    let sum = rw c.len.ensures.value at c.saturating_add.ensures in
    let short = short_length c.args.facts.now parts.0.now.list parts.1.now c.saturating_add.result 65536
    c.parts.ensures.facts sum c.if-saturating_add-lt-MOST_ROOTS.true (omega arith) in
    λ _. short_room c.args.now c.args.facts.now short

pub returns : goal.returns
returns g c = few_room c.args.now c.args.facts.now c.fold_by.result c.fold_by.ensures.value
