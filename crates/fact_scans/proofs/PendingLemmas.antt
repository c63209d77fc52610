-- Which actions are pending, fact by fact.
use Rattle.std.proofs.Common.{◌≡◌, Bool, true, false, ◌&&◌, ◌==◌, List, [], ◌∷◌, Option, Some, None, find, refl, ap, ◌∙◌}
use Rattle.std.specs.Prelude.{fold, unwrap_or, if◌then◌else◌}
use Rattle.std.specs.Option.{option_or}
use Rattle.login_base.specs.declared.id.UserId.{UserId}
use Rattle.realm_data.specs.declared.action.Action.{Action}
use Rattle.realm_data.specs.declared.action.Action.TheVariants as actions
use Rattle.facts.specs.declared.fact.Fact.{Fact}
use Rattle.facts.specs.declared.fact.Fact.TheVariants as events
use Rattle.facts.specs.Actions.{same_action, required_by, is_pending, in_order, first_pending}
use Rattle.facts.specs.Places.{last_of}
use Rattle.fact_scans.specs.declared.actions.Pending.{Pending}
use Rattle.fact_scans.specs.Carrying.{nothing_pending, is_in, with_action, pending_after}

abbrev answer : Action → Bool → Action → Option Bool
answer kind is action = if same_action kind action then Some is else None

in_with : (p : Pending) (kind action : Action) (is : Bool) → is_in (with_action p kind is) action ≡ unwrap_or (answer kind is action) (is_in p action)
in_with p actions.Terms actions.Terms is = refl
in_with p actions.Terms actions.VerifyEmail is = refl
in_with p actions.Terms actions.UpdatePassword is = refl
in_with p actions.Terms actions.ConfigureOtp is = refl
in_with p actions.Terms actions.RecoveryCodes is = refl
in_with p actions.VerifyEmail actions.Terms is = refl
in_with p actions.VerifyEmail actions.VerifyEmail is = refl
in_with p actions.VerifyEmail actions.UpdatePassword is = refl
in_with p actions.VerifyEmail actions.ConfigureOtp is = refl
in_with p actions.VerifyEmail actions.RecoveryCodes is = refl
in_with p actions.UpdatePassword actions.Terms is = refl
in_with p actions.UpdatePassword actions.VerifyEmail is = refl
in_with p actions.UpdatePassword actions.UpdatePassword is = refl
in_with p actions.UpdatePassword actions.ConfigureOtp is = refl
in_with p actions.UpdatePassword actions.RecoveryCodes is = refl
in_with p actions.ConfigureOtp actions.Terms is = refl
in_with p actions.ConfigureOtp actions.VerifyEmail is = refl
in_with p actions.ConfigureOtp actions.UpdatePassword is = refl
in_with p actions.ConfigureOtp actions.ConfigureOtp is = refl
in_with p actions.ConfigureOtp actions.RecoveryCodes is = refl
in_with p actions.RecoveryCodes actions.Terms is = refl
in_with p actions.RecoveryCodes actions.VerifyEmail is = refl
in_with p actions.RecoveryCodes actions.UpdatePassword is = refl
in_with p actions.RecoveryCodes actions.ConfigureOtp is = refl
in_with p actions.RecoveryCodes actions.RecoveryCodes is = refl

in_own : (own : Bool) (p : Pending) (kind action : Action) (is : Bool)
    → is_in (if own then with_action p kind is else p) action ≡ unwrap_or (if own && same_action kind action then Some is else None) (is_in p action)
in_own true p kind action is = in_with p kind action is
in_own false p kind action is = refl

in_after : (user : UserId) (action : Action) (p : Pending) (fact : Fact) → is_in (pending_after user p fact) action ≡ unwrap_or (required_by user action fact) (is_in p action)
in_after user action p (events.ActionSet of kind) = in_own (of.0 == user.0) p kind action true
in_after user action p (events.ActionDone of kind) = in_own (of.0 == user.0) p kind action false
in_after user action p fact = refl

either : (x y : Option Bool) (b : Bool) → unwrap_or x (unwrap_or y b) ≡ unwrap_or (option_or x y) b
either None y b = refl
either (Some x) y b = refl

in_fold : (user : UserId) (action : Action) (p : Pending) (facts : List Fact)
    → is_in (fold (pending_after user) p facts) action ≡ unwrap_or (last_of (required_by user action) facts) (is_in p action)
in_fold user action p [] = refl
in_fold user action p (fact ∷ facts) =
    in_fold user action (pending_after user p fact) facts
    ∙ ap (unwrap_or (last_of (required_by user action) facts)) (in_after user action p fact)
    ∙ either (last_of (required_by user action) facts) (required_by user action fact) (is_in p action)

none_in : (action : Action) → is_in nothing_pending action ≡ false
none_in actions.Terms = refl
none_in actions.VerifyEmail = refl
none_in actions.UpdatePassword = refl
none_in actions.ConfigureOtp = refl
none_in actions.RecoveryCodes = refl

carried : (user : UserId) (facts : List Fact) (action : Action) → is_in (fold (pending_after user) nothing_pending facts) action ≡ is_pending user facts action
unfolding is_pending
carried user facts action =
    in_fold user action nothing_pending facts ∙ ap (unwrap_or (last_of (required_by user action) facts)) (none_in action)

found : (f g : Action → Bool) → ((action : Action) → f action ≡ g action) → (order : List Action) → find f order ≡ find g order
found f g same [] = refl
found f g same (action ∷ order) = rw (same action) (by (g action) action order (found f g same order)) where
  by : (is : Bool) (action : Action) (order : List Action) → find f order ≡ find g order → (if is then Some action else find f order) ≡ (if is then Some action else find g order)
  by true action order h = refl
  by false action order h = h

pub first_carried : (user : UserId) (facts : List Fact) (p : Pending) → p ≡ fold (pending_after user) nothing_pending facts → find (is_in p) in_order ≡ first_pending user facts
unfolding first_pending
first_carried user facts p is =
    ap (λ (q : Pending). find (is_in q) in_order) is
    ∙ found (is_in (fold (pending_after user) nothing_pending facts)) (is_pending user facts) (carried user facts) in_order
