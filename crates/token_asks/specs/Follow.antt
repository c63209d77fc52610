-- What it is due to follow a token.
use Rattle.std.specs.Prelude.{ℕ, ◌+◌, nat_le, List, [], ◌∷◌, ◌++◌, Option, Some, None, Result, Ok, Err, if◌then◌else◌}
use Rattle.login_base.specs.declared.id.TokenKey.{TokenKey}
use Rattle.login_base.specs.declared.id.UserId.{UserId}
use Rattle.realm_data.specs.declared.action.Action.{Action}
use Rattle.realm_data.specs.declared.action.Action.TheVariants as actions
use Rattle.asks.specs.declared.admin.TokenAction.{TokenAction}
use Rattle.asks.specs.declared.admin.TokenAction.TheVariants as tokens
use Rattle.asks.specs.declared.finding.Finding.{Finding}
use Rattle.asks.specs.declared.reply.What.{What}
use Rattle.asks.specs.declared.reply.What.TheVariants as whats
use Rattle.facts.specs.declared.fact.Fact.{Fact}
use Rattle.facts.specs.declared.fact.Fact.TheVariants as events
use Rattle.facts.specs.declared.token.Token.{Token}
use Rattle.facts.specs.Serials.{last_stored_serial}
use Rattle.facts.specs.Tokens.{token_made, is_token_spent}
use Rattle.hall_answers.specs.declared.answer.Answer.{Answer}
use Rattle.hall_answers.specs.declared.refusal.Refusal.{Refusal}
use Rattle.hall_answers.specs.declared.refusal.Refusal.TheVariants.{TokenUnknown, TokenSpent, TokenExpired}
use Rattle.hall_answers.specs.Answers.{reply_in}
use Rattle.hall_answers.specs.Passwords.{derived, password_facts}
use Rattle.hall_answers.specs.Refusals.{◌>>=◌, who_named, settled}
use Rattle.hall_answers.specs.Setting.{Setting}

-- ---- refusals, in their order

abbrev pub token_from : Option Token → Result Token Refusal
token_from None = Err TokenUnknown
token_from (Some token) = Ok token

-- there is a token of this key, for what is asked
unfoldable pub check_made : List Fact → TokenKey → TokenAction → Result Token Refusal
check_made facts key kind = token_from (token_made key kind facts)

-- it wasn't followed before
unfoldable pub check_unspent : List Fact → TokenKey → Result (Unit {0}) Refusal
check_unspent facts key = if is_token_spent key facts then Err TokenSpent else Ok tt

-- the moment is before its expiry
abbrev pub check_unexpired : ℕ → Token → Result (Unit {0}) Refusal
check_unexpired moment token = if nat_le token.expiry moment then Err (TokenExpired token.expiry) else Ok tt

-- the user whose token it is, where it can be followed; whether the account is locked or disabled doesn't matter
unfoldable pub check_token : List Fact → ℕ → TokenKey → TokenAction → Result UserId Refusal
check_token facts moment key kind = do
  token ← check_made facts key kind
  unspent ← check_unspent facts key
  unexpired ← check_unexpired moment token
  Ok token.user

-- ---- answers

-- the token is spent, and the user has done its action
abbrev pub followed : TokenKey → UserId → Action → List Fact
followed key user action = events.SpentToken key ∷ events.ActionDone user action ∷ []

abbrev pub action_done : List Fact → UserId → Action → What
action_done facts user action = whats.ActionDone (who_named facts user) action

abbrev pub answer_to_verify : Setting → TokenKey → UserId → Answer
answer_to_verify setting key user =
    record {
      reply = reply_in None (action_done setting.facts user actions.VerifyEmail);
      added = followed key user actions.VerifyEmail;
    }

unfoldable pub due_verify : Setting → TokenKey → Answer
due_verify setting key = settled setting.facts None (answer_to_verify setting key) (check_token setting.facts setting.moment key tokens.VerifyEmail)

-- the derived password is the user's from now on, set by no tab, so that older evidence of the user's password counts
-- in no tab any more
abbrev pub answer_to_reset : Setting → TokenKey → Finding → UserId → Answer
answer_to_reset setting key finding user =
    record {
      reply = reply_in None (action_done setting.facts user actions.UpdatePassword);
      added = password_facts user (last_stored_serial setting.facts + 1) (derived finding) None ++ followed key user actions.UpdatePassword;
    }

unfoldable pub due_reset : Setting → TokenKey → Finding → Answer
due_reset setting key finding =
    settled setting.facts None (answer_to_reset setting key finding) (check_token setting.facts setting.moment key tokens.UpdatePassword)
