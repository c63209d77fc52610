-- The words and lists of the tables, as they are written.
use Rattle.std.specs.Prelude.{ℕ, ◌-◌, ◌^◌, ◌++◌, ◌&&◌, Bool, max, nat_le, List, codes, decimal, filter, fold}
use Rattle.conditions.specs.declared.secret_kind.SecretKind.{SecretKind}
use Rattle.conditions.specs.declared.secret_kind.SecretKind.TheVariants as kinds
use Rattle.realm_data.specs.declared.action.Action.{Action}
use Rattle.realm_data.specs.declared.action.Action.TheVariants as actions
use Rattle.asks.specs.declared.admin.TokenAction.{TokenAction}
use Rattle.asks.specs.declared.admin.TokenAction.TheVariants as tokens
use Rattle.keeper_columns.specs.declared.levels.ReachedLevel.{ReachedLevel}
use Rattle.keeper_columns.specs.Words.{is_role_before, is_action_before, is_step_before, is_level_before}
use Rattle.fact_columns.specs.Lists.{listed, in_order}

-- ---- kinds

abbrev pub secret_word : SecretKind → List ℕ
secret_word kinds.Password = codes "password"
secret_word kinds.Otp = codes "otp"
secret_word kinds.Recovery = codes "recovery"

abbrev pub token_word : TokenAction → List ℕ
token_word tokens.VerifyEmail = codes "verify_email"
token_word tokens.UpdatePassword = codes "update_password"

abbrev pub action_word : Action → List ℕ
action_word actions.Terms = codes "terms"
action_word actions.VerifyEmail = codes "verify_email"
action_word actions.UpdatePassword = codes "update_password"
action_word actions.ConfigureOtp = codes "configure_otp"
action_word actions.RecoveryCodes = codes "recovery_codes"

-- ---- items of lists

abbrev pub role_text : List ℕ → List ℕ
role_text role = role

-- `<level>@<moment>`
abbrev pub level_text : ReachedLevel → List ℕ
level_text reached = decimal reached.level ++ (codes "@" ++ decimal reached.moment)

-- ---- lists

-- names in byte order, without repeats
abbrev pub roles_text : List (List ℕ) → List ℕ
roles_text roles = listed role_text (in_order is_role_before roles)

-- actions in the order in which they are asked, without repeats
abbrev pub actions_text : List Action → List ℕ
actions_text required = listed action_word (in_order is_action_before required)

-- levels ascending, each as it was reached last
abbrev pub levels_text : List ReachedLevel → List ℕ
levels_text levels = listed level_text (in_order is_level_before levels)

-- ---- spent steps

-- the greatest step, 0 where there is none
abbrev pub greatest_step : List ℕ → ℕ
greatest_step steps = fold max 0 steps

-- the steps that are no more than four before the greatest
abbrev pub near_steps : List ℕ → List ℕ
near_steps steps = filter (λ step. nat_le (greatest_step steps - step) 4) steps

-- these ascending: earlier ones can't fit again
abbrev pub kept_steps : List ℕ → List ℕ
kept_steps steps = in_order is_step_before (near_steps steps)

abbrev pub steps_text : List ℕ → List ℕ
steps_text steps = listed decimal (kept_steps steps)

-- ---- ranges

-- the level is 1 to 1,000, and the moment below 2^53
abbrev pub is_reached : ReachedLevel → Bool
is_reached reached = nat_le 1 reached.level && nat_le reached.level 1000 && nat_le reached.moment (2 ^ 53 - 1)

abbrev pub is_step : ℕ → Bool
is_step step = nat_le step (2 ^ 64 - 1)
