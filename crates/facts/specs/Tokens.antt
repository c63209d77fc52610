-- The tokens that users follow.
use Rattle.std.specs.Prelude.{ℕ, Bool, true, false, ◌&&◌, List, Option, Some, None, filter, length, if◌then◌else◌}
use Rattle.std.specs.List.{list_any}
use Rattle.login_base.specs.IdText.{same_id}
use Rattle.login_base.specs.declared.id.TokenKey.{TokenKey}
use Rattle.asks.specs.declared.admin.TokenAction.{TokenAction}
use Rattle.asks.specs.declared.admin.TokenAction.TheVariants as tokens
use Rattle.facts.specs.declared.fact.Fact.{Fact}
use Rattle.facts.specs.declared.fact.Fact.TheVariants as events
use Rattle.facts.specs.declared.token.Token.{Token}
use Rattle.facts.specs.Places.{last_of}

abbrev pub same_kind : TokenAction → TokenAction → Bool
same_kind tokens.VerifyEmail tokens.VerifyEmail = true
same_kind tokens.UpdatePassword tokens.UpdatePassword = true
same_kind kind other = false

-- the token that a fact makes with this key, for this action
abbrev pub token_by : TokenKey → TokenAction → Fact → Option Token
token_by key kind (events.TokenMade of user own expiry) =
    if same_id of.0 key.0 && same_kind own kind then Some (record { user = user; expiry = expiry }) else None
token_by key kind event = None

-- the token of this key, for this action
unfoldable pub token_made : TokenKey → TokenAction → List Fact → Option Token
token_made key kind facts = last_of (token_by key kind) facts

abbrev pub spends : TokenKey → Fact → Bool
spends key (events.SpentToken of) = same_id of.0 key.0
spends key event = false

-- the token of this key was followed
unfoldable pub is_token_spent : TokenKey → List Fact → Bool
is_token_spent key facts = list_any (spends key) facts

abbrev pub makes_token : Fact → Bool
makes_token (events.TokenMade key user kind expiry) = true
makes_token event = false

-- how many tokens were ever made
unfoldable pub tokens_made : List Fact → ℕ
tokens_made facts = length (filter makes_token facts)
