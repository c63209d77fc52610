-- A tab completes once after an opening.
use Rattle.std.specs.Prelude.{◌≡◌, Bool, false, ◌||◌, List, [], ◌∷◌, if◌then◌else◌}
use Rattle.login_base.specs.IdText.{same_id}
use Rattle.login_base.specs.declared.id.TabKey.{TabKey}
use Rattle.facts.specs.declared.fact.Fact.{Fact}
use Rattle.facts.specs.declared.fact.Fact.TheVariants as events

-- some of these facts completes the tab, before any opens it
unfoldable pub completes_next : TabKey → List Fact → Bool
completes_next tab [] = false
completes_next tab (events.Opened root of version level life moment ∷ facts) = if same_id of.0 tab.0 then false else completes_next tab facts
completes_next tab (events.Completed of user session moment ∷ facts) = same_id of.0 tab.0 || completes_next tab facts
completes_next tab (event ∷ facts) = completes_next tab facts

-- the fact completes a tab that the later ones complete again
abbrev pub completes_twice : Fact → List Fact → Bool
completes_twice (events.Completed tab user session moment) later = completes_next tab later
completes_twice event later = false

-- no tab that a fact completes is completed by a later one, but behind an opening
unfoldable pub AreCompletedOnce : List Fact → Type 0
AreCompletedOnce [] = Unit {0}
AreCompletedOnce (fact ∷ facts) = (completes_twice fact facts ≡ false) × AreCompletedOnce facts
