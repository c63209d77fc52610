use Rattle.std.proofs.Common.{ℕ, ◌==◌, rules, tests}
use Rattle.std.proofs.lemmas.Iterator.Consumers.{map_from_collect}
use Rattle.std.proofs.lemmas.Iterator.Splits.{YieldsList-from_slice_split}
use Rattle.web_requests.proofs.cookie.parts.Goals as goal

pub returns : goal.returns
returns c =
    let split = map_from_collect c.collect.result c.collect.ensures.ran (YieldsList-from_slice_split _ (λ (b : ℕ). b == 59) c.args.value.now c.split.ensures.rest c.split.ensures.done c.split.ensures.closure (λ x r q k. search (rules, tests))) in
    record { parts = rw (c.in_ok-collect.was) at split }
