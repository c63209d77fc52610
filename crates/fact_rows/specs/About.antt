-- Which facts a question is about: a fact of another subject has no answer to it.
use Rattle.std.proofs.Common.{◌≡◌, ℕ, false, ◌==◌, Option, Some, None, refl}
use Rattle.login_base.specs.IdText.{same_id}
use Rattle.login_base.specs.declared.id.Id.{Id}
use Rattle.login_base.specs.declared.id.SessionId.{SessionId}
use Rattle.login_base.specs.declared.id.TokenKey.{TokenKey}
use Rattle.login_base.specs.declared.id.UserId.{UserId}
use Rattle.realm_data.specs.declared.action.Action.{Action}
use Rattle.facts.specs.declared.fact.Fact.{Fact}
use Rattle.facts.specs.declared.fact.Fact.TheVariants as events
use Rattle.facts.specs.declared.tabs.RootSession.{RootSession}
use Rattle.facts.specs.Actions.{required_by}
use Rattle.facts.specs.Subjects.{subject_of, is_account, is_of_user, is_of_session, is_of_token}
use Rattle.fact_rows.specs.Found.{kept_after, token_made_as, set_as}

-- an id of another serial is another one
other_id : (a b : Id) → (a.serial == b.serial) ≡ false → same_id a b ≡ false
other_id a b h = rw h refl

pub of_session : (id : SessionId) (own : Option RootSession) (fact : Fact) → is_of_session id (subject_of fact) ≡ false → kept_after id own fact ≡ own
of_session id own (events.Session of (Some root) user moment idle most) h = rw (other_id of.0 id.0 h) refl
of_session id own (events.Session of None user moment idle most) h = rw (other_id of.0 id.0 h) refl
of_session id own (events.Seen of moment) h = rw (other_id of.0 id.0 h) refl
of_session id own (events.SessionEnd of) h = rw (other_id of.0 id.0 h) refl
of_session id own fact h = refl

pub of_making : (key : TokenKey) (fact : Fact) → is_of_token key (subject_of fact) ≡ false → token_made_as key fact ≡ None
of_making key (events.TokenMade of user kind expiry) h = rw (other_id of.0 key.0 h) refl
of_making key fact h = refl

pub of_setting : (serial : ℕ) (fact : Fact) → is_account (subject_of fact) ≡ false → set_as serial fact ≡ None
of_setting serial (events.SecretSet user kind own secret by) h = absurd cc
of_setting serial fact h = refl

pub of_requiring : (user : UserId) (action : Action) (fact : Fact) → is_of_user user (subject_of fact) ≡ false → required_by user action fact ≡ None
of_requiring user action (events.ActionSet of kind) h = rw h refl
of_requiring user action (events.ActionDone of kind) h = rw h refl
of_requiring user action fact h = refl
