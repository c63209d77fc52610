-- How far the following of tokens lifts the counters.
use Rattle.std.proofs.Common.{◌+◌, ◌++◌, Option, Some, None, refl, arith}
use Rattle.std.specs.Prelude.{Result, Ok, Err}
use Rattle.login_base.specs.declared.id.TokenKey.{TokenKey}
use Rattle.login_base.specs.declared.id.UserId.{UserId}
use Rattle.realm_data.specs.declared.action.Action.TheVariants as actions
use Rattle.realm_data.specs.PasswordHash.{HashedPassword}
use Rattle.asks.specs.declared.admin.TokenAction.TheVariants as tokens
use Rattle.asks.specs.declared.finding.Finding.{Finding}
use Rattle.facts.specs.Serials.{last_stored_serial}
use Rattle.hall_answers.specs.declared.refusal.Refusal.{Refusal}
use Rattle.hall_answers.specs.Passwords.{derived, password_facts}
use Rattle.hall_answers.specs.Refusals.{settled}
use Rattle.hall_answers.specs.Setting.{Setting}
use Rattle.hall_answers.proofs.Lifts.{Lifts, lifts, nothing}
use Rattle.token_asks.specs.Follow.{check_token, followed, answer_to_verify, answer_to_reset, due_verify, due_reset}

verified_lifts : (setting : Setting) (key : TokenKey) (user : Result UserId Refusal) → Lifts 1 setting.facts (settled setting.facts None (answer_to_verify setting key) user).added
verified_lifts setting key (Ok user) = lifts 1 setting.facts _ (omega arith) (omega arith) refl
verified_lifts setting key (Err refusal) = nothing 1 setting.facts

pub verify_lifts : (setting : Setting) (key : TokenKey) → Lifts 1 setting.facts (due_verify setting key).added
unfolding due_verify
verify_lifts setting key = verified_lifts setting key (check_token setting.facts setting.moment key tokens.VerifyEmail)

password_lifts : (setting : Setting) (key : TokenKey) (user : UserId) (password : Option HashedPassword)
    → Lifts 1 setting.facts (password_facts user (last_stored_serial setting.facts + 1) password None ++ followed key user actions.UpdatePassword)
password_lifts setting key user None = lifts 1 setting.facts _ (omega arith) (omega arith) refl
password_lifts setting key user (Some hash) = lifts 1 setting.facts _ (omega arith) (omega arith) refl

set_lifts : (setting : Setting) (key : TokenKey) (finding : Finding) (user : Result UserId Refusal) → Lifts 1 setting.facts (settled setting.facts None (answer_to_reset setting key finding) user).added
set_lifts setting key finding (Ok user) = password_lifts setting key user (derived finding)
set_lifts setting key finding (Err refusal) = nothing 1 setting.facts

pub reset_lifts : (setting : Setting) (key : TokenKey) (finding : Finding) → Lifts 1 setting.facts (due_reset setting key finding).added
unfolding due_reset
reset_lifts setting key finding = set_lifts setting key finding (check_token setting.facts setting.moment key tokens.UpdatePassword)
