-- A fact that doesn't concern a tab leaves what is known of it.
use Rattle.std.proofs.Common.{◌≡◌, ℕ, false, List, Option, Some, None, ◌==◌, refl, ap, ◌∙◌, slice_get, option_map}
use Rattle.std.proofs.lemmas.Option.{same_Some}
use Rattle.login_base.specs.IdText.{same_id}
use Rattle.login_base.specs.declared.id.Id.{Id}
use Rattle.login_base.specs.declared.id.RootKey.{RootKey}
use Rattle.login_base.specs.declared.id.TabKey.{TabKey}
use Rattle.facts.specs.declared.fact.Fact.{Fact}
use Rattle.facts.specs.declared.fact.Fact.TheVariants as events
use Rattle.facts.specs.declared.subject.Subject.{Subject}
use Rattle.facts.specs.declared.tabs.TabState.{TabState}
use Rattle.facts.specs.Subjects.{subject_of, concerns}
use Rattle.facts.specs.Tabs.{tab_after}

-- an id of another serial is another one
other : (a b : Id) → (a.serial == b.serial) ≡ false → same_id a b ≡ false
other a b h = rw h refl

pub unconcerned : (root : RootKey) (tab : TabKey) (state : TabState) (fact : Fact) → concerns root tab (subject_of fact) ≡ false → tab_after root tab state fact ≡ state
unconcerned root tab state (events.Session session (Some of) user moment idle most) h = rw (other of.0 root.0 h) refl
unconcerned root tab state (events.Session session None user moment idle most) h = absurd cc
unconcerned root tab state (events.Seen session moment) h = absurd cc
unconcerned root tab state (events.SessionEnd session) h = absurd cc
unconcerned root tab state (events.Completed of user session moment) h = rw (other of.0 tab.0 h) refl
unconcerned root tab state (events.Opened of opened version level life moment) h = rw (other opened.0 tab.0 h) refl
unconcerned root tab state (events.Rendered of code action offer) h = rw (other of.0 tab.0 h) refl
unconcerned root tab state (events.Named of user) h = rw (other of.0 tab.0 h) refl
unconcerned root tab state fact h = refl

-- a fact of this subject that doesn't concern the tab leaves what is known of it
passed_over : (root : RootKey) (tab : TabKey) (state : TabState) (o : Option Fact) (subject : Subject) → option_map subject_of o ≡ Some subject → concerns root tab subject ≡ false → option_map (tab_after root tab state) o ≡ Some state
passed_over root tab state None subject h k = absurd cc
passed_over root tab state (Some fact) subject h k = ap Some (unconcerned root tab state fact (ap (concerns root tab) (same_Some (subject_of fact) subject h) ∙ k))

pub unconcerned_at : (root : RootKey) (tab : TabKey) (state : TabState) (facts : List Fact) (i : ℕ) (subject : Subject) → option_map subject_of (slice_get facts i) ≡ Some subject → concerns root tab subject ≡ false → option_map (tab_after root tab state) (slice_get facts i) ≡ Some state
unconcerned_at root tab state facts i subject h k = passed_over root tab state (slice_get facts i) subject h k
