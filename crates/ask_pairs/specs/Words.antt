-- The words of pairs: roles, actions, secrets and lives.
use Rattle.std.specs.Prelude.{ℕ, ◌^◌, ◌-◌, List, [], ◌∷◌, Option, Some, None, option_and_then, codes, if◌then◌else◌}
use Rattle.std.specs.Str.{bytes_eq}
use Rattle.realm_data.specs.declared.action.Action.{Action}
use Rattle.asks.specs.declared.admin.TokenAction.{TokenAction}
use Rattle.asks.specs.declared.admin.TokenAction.TheVariants as tokens
use Rattle.asks.specs.Ranges.{is_life}
use Rattle.realm_fields.specs.Words.{action_of, name_of, otp_of}
use Rattle.ask_pairs.specs.Lists.{joined}
use Rattle.decimal_text.specs.Numbers.{number}

-- the roles of a list, which may be empty
abbrev pub roles_in : List ℕ → Option (List (List ℕ))
roles_in [] = Some []
roles_in (b ∷ bytes) = joined name_of (b ∷ bytes)

abbrev pub roles_from : Option (List ℕ) → Option (List (List ℕ))
roles_from value = option_and_then roles_in value

-- the actions of a list, at least one
abbrev pub actions_from : Option (List ℕ) → Option (List Action)
actions_from value = option_and_then (joined action_of) value

abbrev pub action_from : Option (List ℕ) → Option Action
action_from value = option_and_then action_of value

-- an action that a token can be for
abbrev pub token_action_of : List ℕ → Option TokenAction
token_action_of word =
    if bytes_eq word (codes "verify_email") then Some tokens.VerifyEmail
    else if bytes_eq word (codes "update_password") then Some tokens.UpdatePassword
    else None

abbrev pub token_action_from : Option (List ℕ) → Option TokenAction
token_action_from value = option_and_then token_action_of value

-- base32 of 10 to 64 bytes
abbrev pub secret_from : Option (List ℕ) → Option (List ℕ)
secret_from value = option_and_then otp_of value

-- a number of seconds that a token can live
abbrev pub if_life : ℕ → Option ℕ
if_life seconds = if is_life seconds then Some seconds else None

abbrev pub life_of : List ℕ → Option ℕ
life_of text = option_and_then if_life (number (2 ^ 64 - 1) text)

abbrev pub life_from : Option (List ℕ) → Option ℕ
life_from value = option_and_then life_of value
