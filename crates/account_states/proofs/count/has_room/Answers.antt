use Rattle.account_states.proofs.CountLemmas.{many_is_long}
use Rattle.account_states.proofs.count.has_room.Goals as goal

pub returns-in_err-account_count-clause-unread : goal.returns-in_err-account_count-clause-unread
returns-in_err-account_count-clause-unread g c =
    λ short. absurd (many_is_long c.args.facts.now c.has_few_puts.result c.has_few_puts.ensures.value c.if-has_few_puts.false short)

pub returns-clause-unread : goal.returns-clause-unread
returns-clause-unread g c =
    λ short. absurd (many_is_long c.args.facts.now c.has_few_puts.result c.has_few_puts.ensures.value c.if-has_few_puts.false short)
