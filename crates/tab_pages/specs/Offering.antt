-- What the page of an action offers.
use Rattle.std.specs.Prelude.{ℕ, Bool, false, List, [], Option, Some, None, replicate, if◌then◌else◌}
use Rattle.login_base.specs.declared.draws.Draws.{Draws}
use Rattle.realm_data.specs.declared.action.Action.{Action}
use Rattle.realm_data.specs.declared.realm_parts.RealmParts.{RealmParts}
use Rattle.facts.specs.declared.fact.Fact.{Fact}
use Rattle.facts.specs.declared.tabs.Page.{Page}
use Rattle.facts.specs.Actions.{same_action}
use Rattle.facts.specs.Realms.{realm_of}
use Rattle.offers.specs.Offers.{offer_of, shown_for}
use Rattle.login_progress.specs.declared.known_tab.KnownTab.{KnownTab}

-- nothing is offered
abbrev pub no_offer : List ℕ
no_offer = replicate 32 0

abbrev pub is_action : Option Action → Action → Bool
is_action None action = false
is_action (Some asked) action = same_action asked action

-- the page that was shown last asks this action
abbrev pub is_shown : Option Page → Action → Bool
is_shown None action = false
is_shown (Some page) action = is_action page.action action

-- what the page that was shown last offers
abbrev pub offer_on : Option Page → List ℕ
offer_on None = no_offer
offer_on (Some page) = page.offer

-- An offer stays while the page asks the same action. For another one, it is the offer of the ask.
abbrev pub offer_for : Option Page → Action → Draws → List ℕ
offer_for page action draws = if is_shown page action then offer_on page else offer_of draws

abbrev pub shown_under : Option RealmParts → Action → List ℕ → List (List ℕ)
shown_under None action offer = []
shown_under (Some realm) action offer = shown_for action offer realm.recovery_count

-- the texts that the page shows, with as many recovery codes as the realm gives with which the tab was opened
unfoldable pub shown_in : List Fact → KnownTab → Action → List ℕ → List (List ℕ)
shown_in facts known action offer = shown_under (realm_of known.opening.version facts) action offer
