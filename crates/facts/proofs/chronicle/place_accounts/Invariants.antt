use Rattle.std.proofs.Common.{◌≡◌, ◌≤◌, ◌+◌, take, vec_len}
use Rattle.facts.specs.Kept.{account_places}
use Rattle.facts.proofs.chronicle.place_accounts.Given as goal

abbrev pub invariant-loop-fact : goal.invariant-loop-fact
invariant-loop-fact l =
    (l.place ≡ l.before + l.fact-index)
    × (l.places.items ≡ account_places l.before (take l.fact-index l.facts))
    × (vec_len l.places ≤ l.fact-index)
