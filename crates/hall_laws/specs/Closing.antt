-- What opens an account.
use Rattle.std.specs.Prelude.{◌≡◌, Bool, false, ◌==◌, List}
use Rattle.std.specs.List.{All}
use Rattle.login_base.specs.declared.id.UserId.{UserId}
use Rattle.facts.specs.declared.fact.Fact.{Fact}
use Rattle.facts.specs.declared.fact.Fact.TheVariants as events

-- a login of the user completes, or an administrator enables or unlocks the account
abbrev pub opens : UserId → Fact → Bool
opens user (events.Completed tab of session moment) = of.0 == user.0
opens user (events.Enabled of) = of.0 == user.0
opens user event = false

-- none of these facts opens the user's account
abbrev pub OpenNothing : UserId → List Fact → Type 0
OpenNothing user facts = All (λ fact. opens user fact ≡ false) facts
