use Rattle.std.proofs.Common.{arith}
use Rattle.fact_scans.proofs.Counting.{short_length}
use Rattle.fact_scans.proofs.TokenLemmas.{few_tokens, tokens_counted}
use Rattle.fact_scans.proofs.tokens.has_token_room.Goals as goal

pub returns-then-saturating_add-lt-MOST_TOKENS : goal.returns-then-saturating_add-lt-MOST_TOKENS
returns-then-saturating_add-lt-MOST_TOKENS g c =
    let parts = c.parts.result in
    let sum = rw c.len.ensures.value at c.saturating_add.ensures in
    let short = short_length c.args.facts.now parts.0.now.list parts.1.now c.saturating_add.result 1000000
    c.parts.ensures.facts sum c.if-saturating_add-lt-MOST_TOKENS.true (omega arith) in
    record { value = few_tokens c.args.facts.now short }

pub returns : goal.returns
returns g c = record { value = tokens_counted c.args.facts.now c.fold_by.result c.fold_by.ensures.value }
