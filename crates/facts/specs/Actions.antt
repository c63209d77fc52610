-- The actions that are required of the users.
use Rattle.std.specs.Prelude.{Bool, true, false, ◌&&◌, ◌==◌, List, [], ◌∷◌, Option, Some, None, find, unwrap_or, if◌then◌else◌}
use Rattle.login_base.specs.declared.id.UserId.{UserId}
use Rattle.realm_data.specs.declared.action.Action.{Action}
use Rattle.realm_data.specs.declared.action.Action.TheVariants as actions
use Rattle.facts.specs.declared.fact.Fact.{Fact}
use Rattle.facts.specs.declared.fact.Fact.TheVariants as events
use Rattle.facts.specs.Places.{last_of}

abbrev pub same_action : Action → Action → Bool
same_action actions.Terms actions.Terms = true
same_action actions.VerifyEmail actions.VerifyEmail = true
same_action actions.UpdatePassword actions.UpdatePassword = true
same_action actions.ConfigureOtp actions.ConfigureOtp = true
same_action actions.RecoveryCodes actions.RecoveryCodes = true
same_action action other = false

abbrev pub is_own : UserId → Action → UserId → Action → Bool
is_own user action of kind = of.0 == user.0 && same_action kind action

-- whether a fact requires the action of the user, or has it done
abbrev pub required_by : UserId → Action → Fact → Option Bool
required_by user action (events.ActionSet of kind) = if is_own user action of kind then Some true else None
required_by user action (events.ActionDone of kind) = if is_own user action of kind then Some false else None
required_by user action event = None

-- the action is pending: it was required of the user, and wasn't done since
unfoldable pub is_pending : UserId → List Fact → Action → Bool
is_pending user facts action = unwrap_or (last_of (required_by user action) facts) false

-- the actions, in the order in which they are asked
abbrev pub in_order : List Action
in_order = actions.Terms ∷ actions.VerifyEmail ∷ actions.UpdatePassword ∷ actions.ConfigureOtp ∷ actions.RecoveryCodes ∷ []

-- the first action that is pending for the user
unfoldable pub first_pending : UserId → List Fact → Option Action
first_pending user facts = find (is_pending user facts) in_order
