use Rattle.std.proofs.Common.{arith}
use Rattle.account_states.proofs.CountLemmas.{few_by_length, few_by_count, not_short}
use Rattle.account_states.proofs.count.has_few_puts.Goals as goal

pub returns-then-saturating_add-lt-MOST_ACCOUNTS-clause-value : goal.returns-then-saturating_add-lt-MOST_ACCOUNTS-clause-value
returns-then-saturating_add-lt-MOST_ACCOUNTS-clause-value g c =
    few_by_length c.args.facts.now c.parts.result.0.now.list c.parts.result.1.now c.saturating_add.result 100000
    c.parts.ensures.facts (rw c.len.ensures.value at c.saturating_add.ensures) c.if-saturating_add-lt-MOST_ACCOUNTS.true (omega arith)

pub returns-clause-value : goal.returns-clause-value
returns-clause-value g c = few_by_count c.args.facts.now c.fold_by.result 100000 c.fold_by.ensures.value (omega arith)

pub returns-clause-unread : goal.returns-clause-unread
returns-clause-unread g c =
    let never = not_short c.args.facts.now c.parts.result.0.now.list c.parts.result.1.now c.saturating_add.result 100000
    c.parts.ensures.facts (rw c.len.ensures.value at c.saturating_add.ensures) c.if-saturating_add-lt-MOST_ACCOUNTS.false in
    λ short. absurd (never short)
