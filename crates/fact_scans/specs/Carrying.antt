-- What is carried from fact to fact of actions and tokens.
use Rattle.std.specs.Prelude.{ℕ, Bool, true, false, ◌||◌, ◌==◌, if◌then◌else◌}
use Rattle.login_base.specs.declared.id.TokenKey.{TokenKey}
use Rattle.login_base.specs.declared.id.UserId.{UserId}
use Rattle.realm_data.specs.declared.action.Action.{Action}
use Rattle.realm_data.specs.declared.action.Action.TheVariants as actions
use Rattle.facts.specs.declared.fact.Fact.{Fact}
use Rattle.facts.specs.declared.fact.Fact.TheVariants as events
use Rattle.facts.specs.Tokens.{spends, makes_token}
use Rattle.fact_scans.specs.declared.actions.Pending.{Pending}
use Rattle.fact_scans.specs.Capped.{one_more}

-- ---- actions

-- none is pending
abbrev pub nothing_pending : Pending
nothing_pending = record { terms = false; verify_email = false; update_password = false; configure_otp = false; recovery_codes = false }

abbrev pub is_in : Pending → Action → Bool
is_in p actions.Terms = p.terms
is_in p actions.VerifyEmail = p.verify_email
is_in p actions.UpdatePassword = p.update_password
is_in p actions.ConfigureOtp = p.configure_otp
is_in p actions.RecoveryCodes = p.recovery_codes

abbrev pub with_action : Pending → Action → Bool → Pending
with_action p actions.Terms is = record p { terms = is }
with_action p actions.VerifyEmail is = record p { verify_email = is }
with_action p actions.UpdatePassword is = record p { update_password = is }
with_action p actions.ConfigureOtp is = record p { configure_otp = is }
with_action p actions.RecoveryCodes is = record p { recovery_codes = is }

abbrev pub pending_after : UserId → Pending → Fact → Pending
pending_after user p (events.ActionSet of kind) = if of.0 == user.0 then with_action p kind true else p
pending_after user p (events.ActionDone of kind) = if of.0 == user.0 then with_action p kind false else p
pending_after user p event = p

-- ---- tokens

-- it was followed
abbrev pub spent_after : TokenKey → Bool → Fact → Bool
spent_after key spent fact = spent || spends key fact

-- how many were made
abbrev pub tokens_after : ℕ → Fact → ℕ
tokens_after n fact = one_more 1000000 (makes_token fact) n
