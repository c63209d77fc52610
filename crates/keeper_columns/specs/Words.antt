-- The words and lists of the tables.
use Rattle.std.specs.Prelude.{ℕ, ◌-◌, ◌^◌, ◌==◌, ◌&&◌, Bool, true, nat_le, nat_lt, List, length, take, drop, slice_get, Option, Some, None, option_and_then, position, codes, if◌then◌else◌}
use Rattle.std.specs.List.{list_all}
use Rattle.std.specs.Ordering.{nat_cmp, is_lt}
use Rattle.std.specs.Cmp.Lexicographic.{slice_cmp}
use Rattle.std.specs.Str.{bytes_eq}
use Rattle.login_base.specs.Names.{is_name}
use Rattle.realm_data.specs.declared.action.Action.{Action}
use Rattle.realm_data.specs.declared.action.Action.TheVariants as actions
use Rattle.conditions.specs.declared.secret_kind.SecretKind.{SecretKind}
use Rattle.conditions.specs.declared.secret_kind.SecretKind.TheVariants as kinds
use Rattle.asks.specs.declared.admin.TokenAction.{TokenAction}
use Rattle.asks.specs.declared.admin.TokenAction.TheVariants as tokens
use Rattle.decimal_text.specs.Numbers.{number}
use Rattle.keeper_columns.specs.declared.levels.ReachedLevel.{ReachedLevel}
use Rattle.keeper_columns.specs.Lists.{list_in}

-- ---- kinds

abbrev pub secret_kind : List ℕ → Option SecretKind
secret_kind word =
    if bytes_eq word (codes "password") then Some kinds.Password
    else if bytes_eq word (codes "otp") then Some kinds.Otp
    else if bytes_eq word (codes "recovery") then Some kinds.Recovery
    else None

abbrev pub token_kind : List ℕ → Option TokenAction
token_kind word =
    if bytes_eq word (codes "verify_email") then Some tokens.VerifyEmail
    else if bytes_eq word (codes "update_password") then Some tokens.UpdatePassword
    else None

-- ---- roles

abbrev pub role_in : List ℕ → Option (List ℕ)
role_in text = if is_name text then Some text else None

-- in byte order
abbrev pub is_role_before : List ℕ → List ℕ → Bool
is_role_before first second = is_lt (slice_cmp nat_cmp first second)

-- names in byte order, without repeats
abbrev pub roles_in : List ℕ → Option (List (List ℕ))
roles_in text = list_in role_in is_role_before text

-- ---- actions

abbrev pub action_in : List ℕ → Option Action
action_in word =
    if bytes_eq word (codes "terms") then Some actions.Terms
    else if bytes_eq word (codes "verify_email") then Some actions.VerifyEmail
    else if bytes_eq word (codes "update_password") then Some actions.UpdatePassword
    else if bytes_eq word (codes "configure_otp") then Some actions.ConfigureOtp
    else if bytes_eq word (codes "recovery_codes") then Some actions.RecoveryCodes
    else None

-- the place of an action in the order in which actions are asked
abbrev pub place_of : Action → ℕ
place_of actions.Terms = 0
place_of actions.VerifyEmail = 1
place_of actions.UpdatePassword = 2
place_of actions.ConfigureOtp = 3
place_of actions.RecoveryCodes = 4

abbrev pub is_action_before : Action → Action → Bool
is_action_before first second = nat_lt (place_of first) (place_of second)

-- actions in the order in which they are asked, without repeats
abbrev pub actions_in : List ℕ → Option (List Action)
actions_in text = list_in action_in is_action_before text

-- ---- spent steps

abbrev pub step_in : List ℕ → Option ℕ
step_in text = number (2 ^ 64 - 1) text

abbrev pub is_step_before : ℕ → ℕ → Bool
is_step_before first second = nat_lt first second

-- the last step of the list
abbrev pub newest_step : List ℕ → Option ℕ
newest_step steps = slice_get steps (length steps - 1)

-- no step is more than four before this one
abbrev pub are_near : List ℕ → ℕ → Bool
are_near steps newest = list_all (λ step. nat_le (newest - step) 4) steps

abbrev pub are_steps_near : List ℕ → Option ℕ → Bool
are_steps_near steps None = true
are_steps_near steps (Some newest) = are_near steps newest

abbrev pub if_near : List ℕ → Option (List ℕ)
if_near steps = if are_steps_near steps (newest_step steps) then Some steps else None

-- ascending steps, of which none is more than four before the newest
abbrev pub steps_in : List ℕ → Option (List ℕ)
steps_in text = option_and_then if_near (list_in step_in is_step_before text)

-- ---- levels

abbrev pub reached : Option ℕ → Option ℕ → Option ReachedLevel
reached (Some level) (Some moment) =
    if nat_le 1 level && nat_le moment (2 ^ 53 - 1) then Some (record { level = level; moment = moment }) else None
reached level moment = None

abbrev pub level_at : List ℕ → ℕ → Option ReachedLevel
level_at text at = reached (number 1000 (take at text)) (number (2 ^ 53 - 1) (drop 1 (drop at text)))

-- `<level>@<moment>`, the level 1 to 1,000
abbrev pub level_in : List ℕ → Option ReachedLevel
level_in text = option_and_then (level_at text) (position (λ b. b == 64) text)

abbrev pub is_level_before : ReachedLevel → ReachedLevel → Bool
is_level_before first second = nat_lt first.level second.level

-- by ascending level
abbrev pub levels_in : List ℕ → Option (List ReachedLevel)
levels_in text = list_in level_in is_level_before text
