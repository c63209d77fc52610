-- Tokens, fact by fact.
use Rattle.std.proofs.Common.{◌≡◌, ℕ, ◌<◌, Bool, true, false, ◌||◌, nat_lt, List, [], ◌∷◌, length, refl, ◌∙◌}
use Rattle.std.specs.Prelude.{fold}
use Rattle.std.specs.List.{list_any}
use Rattle.login_base.specs.declared.id.TokenKey.{TokenKey}
use Rattle.facts.specs.declared.fact.Fact.{Fact}
use Rattle.facts.specs.Tokens.{spends, is_token_spent, makes_token, tokens_made}
use Rattle.fact_scans.specs.Carrying.{spent_after, tokens_after}
use Rattle.fact_scans.proofs.Counting.{fewer_by_length, fewer_by_count}

-- ---- spent ones

or_assoc : (x y z : Bool) → ((x || y) || z) ≡ (x || (y || z))
or_assoc true y z = refl
or_assoc false y z = refl

or_false : (x : Bool) → x ≡ (x || false)
or_false true = refl
or_false false = refl

spent_from : (key : TokenKey) (spent : Bool) (facts : List Fact) → fold (spent_after key) spent facts ≡ (spent || list_any (spends key) facts)
spent_from key spent [] = or_false spent
spent_from key spent (fact ∷ facts) =
    spent_from key (spent_after key spent fact) facts ∙ or_assoc spent (spends key fact) (list_any (spends key) facts)

pub spent_carried : (key : TokenKey) (facts : List Fact) → fold (spent_after key) false facts ≡ is_token_spent key facts
unfolding is_token_spent
spent_carried key facts = spent_from key false facts

-- ---- room for one more

pub few_tokens : (facts : List Fact) → length facts < 1000000 → true ≡ nat_lt (tokens_made facts) 1000000
unfolding tokens_made
few_tokens facts short = fewer_by_length makes_token facts 1000000 short

pub tokens_counted : (facts : List Fact) (n : ℕ) → n ≡ fold tokens_after 0 facts → nat_lt n 1000000 ≡ nat_lt (tokens_made facts) 1000000
unfolding tokens_made
tokens_counted facts n is = fewer_by_count 1000000 makes_token facts n is
