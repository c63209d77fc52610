-- Which facts the questions are about: a fact of another subject has no answer to them.
use Rattle.std.proofs.Common.{◌≡◌, ℕ, Bool, true, false, ◌==◌, [], Some, None, refl, arith}
use Rattle.std.proofs.lemmas.Bool.Decides.{nat_tests}
use Rattle.login_base.specs.IdText.{same_id}
use Rattle.login_base.specs.declared.id.Id.{Id}
use Rattle.login_base.specs.declared.id.RootKey.{RootKey}
use Rattle.login_base.specs.declared.id.SessionId.{SessionId}
use Rattle.facts.specs.declared.fact.Fact.{Fact}
use Rattle.facts.specs.declared.fact.Fact.TheVariants as events
use Rattle.facts.specs.declared.subject.Subject.{Subject}
use Rattle.facts.specs.declared.subject.Subject.TheVariants as subjects
use Rattle.facts.specs.declared.tabs.RootSession.{RootSession}
use Rattle.facts.specs.Levels.{level_recorded}
use Rattle.facts.specs.Sessions.{stands_by, session_begun, session_later}
use Rattle.facts.specs.Subjects.{subject_of, is_of_root, is_opening, is_session, is_of_session}
use Rattle.root_states.specs.declared.root.RootState.{RootState}
use Rattle.root_states.specs.Carrying.{root_after, tabs_after, roots_after}
use Rattle.root_states.specs.Count.{root_made}

-- an id of another serial is another one
other_id : (a b : Id) → (a.serial == b.serial) ≡ false → same_id a b ≡ false
other_id a b h = rw h refl

pub of_root : (now : ℕ) (root : RootKey) (state : RootState) (fact : Fact) → is_of_root root (subject_of fact) ≡ false
    → root_after now root state fact ≡ state
of_root now root state (events.Session session (Some of) user moment idle most) h = rw (other_id of.0 root.0 h) refl
of_root now root state (events.Session session None user moment idle most) h = absurd cc
of_root now root state (events.Seen session moment) h = absurd cc
of_root now root state (events.SessionEnd session) h = absurd cc
of_root now root state (events.Opened of tab version level life moment) h = rw (other_id of.0 root.0 h) refl
of_root now root state fact h = refl

-- ---- counts

pub of_tabs : (now n : ℕ) (fact : Fact) → is_opening (subject_of fact) ≡ false → tabs_after now n fact ≡ n
of_tabs now n (events.Opened root tab version level life moment) h = absurd cc
of_tabs now n fact h = refl

-- it can make a root known
abbrev pub is_of_roots : Subject → Bool
is_of_roots (subjects.Opening root tab) = true
is_of_roots (subjects.Root root session) = true
is_of_roots subject = false

pub of_root_made : (now : ℕ) (fact : Fact) → is_of_roots (subject_of fact) ≡ false → root_made now fact ≡ None
of_root_made now (events.Opened root tab version level life moment) h = absurd cc
of_root_made now (events.Session session (Some root) user moment idle most) h = absurd cc
of_root_made now (events.Session session None user moment idle most) h = refl
of_root_made now fact h = refl

pub of_roots : (now n : ℕ) (fact : Fact) → is_of_roots (subject_of fact) ≡ false → roots_after now n fact ≡ n
of_roots now n fact h = rw (of_root_made now fact h) refl

-- ---- sessions

pub of_levels : (session : SessionId) (fact : Fact) → is_of_session session (subject_of fact) ≡ false
    → level_recorded session fact ≡ []
of_levels session (events.Level of level moment) h = rw (other_id of.0 session.0 h) refl
of_levels session fact h = refl

pub of_standing : (session : SessionId) (fact : Fact) → is_of_session session (subject_of fact) ≡ false
    → stands_by session fact ≡ None
of_standing session (events.Session of (Some root) user moment idle most) h = rw (other_id of.0 session.0 h) refl
of_standing session (events.Session of None user moment idle most) h = rw (other_id of.0 session.0 h) refl
of_standing session (events.SessionEnd of) h = rw (other_id of.0 session.0 h) refl
of_standing session fact h = refl

pub of_beginning : (fact : Fact) → is_session (subject_of fact) ≡ false → session_begun fact ≡ None
of_beginning (events.Session session (Some root) user moment idle most) h = absurd cc
of_beginning (events.Session session None user moment idle most) h = absurd cc
of_beginning fact h = refl

-- an id is another one either way
other_way : (a b : Id) → (a.serial == b.serial) ≡ false → same_id b a ≡ false
other_way a b h = grind (arith, nat_tests)

pub of_session : (own : RootSession) (fact : Fact) → is_of_session own.session (subject_of fact) ≡ false
    → session_later (Some own) fact ≡ Some own
of_session own (events.Seen session moment) h = rw (other_way session.0 own.session.0 h) refl
of_session own (events.SessionEnd session) h = rw (other_way session.0 own.session.0 h) refl
of_session own fact h = refl
