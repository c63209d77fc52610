-- Which facts the questions are about: a fact of another subject has no answer to them.
use Rattle.std.proofs.Common.{◌≡◌, ℕ, Bool, true, false, ◌==◌, refl}
use Rattle.login_base.specs.declared.id.UserId.{UserId}
use Rattle.facts.specs.declared.fact.Fact.{Fact}
use Rattle.facts.specs.declared.fact.Fact.TheVariants as events
use Rattle.facts.specs.declared.subject.Subject.{Subject}
use Rattle.facts.specs.declared.subject.Subject.TheVariants as subjects
use Rattle.facts.specs.Subjects.{subject_of, is_account}
use Rattle.account_states.specs.declared.state.Carried.{Carried}
use Rattle.account_states.specs.Carrying.{carried_after, puts_after}

-- how a user's account stands: the realm has the policy, and a login that completes clears the failures
abbrev pub is_of_state : UserId → Subject → Bool
is_of_state user subjects.Realm = true
is_of_state user (subjects.User serial) = serial == user.0
is_of_state user (subjects.Login tab serial) = serial == user.0
is_of_state user subject = false

pub of_state : (user : UserId) (carried : Carried) (fact : Fact) → is_of_state user (subject_of fact) ≡ false → carried_after user carried fact ≡ carried
of_state user carried (events.RealmPut version realm) h = absurd cc
of_state user carried (events.Failed of moment) h = rw h refl
of_state user carried (events.Completed tab of session moment) h = rw h refl
of_state user carried (events.Enabled of) h = rw h refl
of_state user carried (events.Disabled of) h = rw h refl
of_state user carried (events.Standing of value) h = rw h refl
of_state user carried fact h = refl

pub of_puts : (n : ℕ) (fact : Fact) → is_account (subject_of fact) ≡ false → puts_after n fact ≡ n
of_puts n (events.UserPut user name roles) h = absurd cc
of_puts n fact h = refl
