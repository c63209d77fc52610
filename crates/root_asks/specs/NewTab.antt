-- What an open is due.
use Rattle.std.specs.Prelude.{ℕ, Bool, ◌&&◌, ◌+◌, ◌*◌, ◌≤◌, max, nat_le, nat_lt, List, [], ◌∷◌, ◌++◌, Option, Some, None, Result, Ok, Err, find, if◌then◌else◌}
use Rattle.std.specs.Str.{bytes_eq}
use Rattle.login_base.specs.declared.id.RootKey.{RootKey}
use Rattle.realm_data.specs.declared.realm_parts.AcrLevel.{AcrLevel}
use Rattle.realm_data.specs.declared.realm_parts.Client.{Client}
use Rattle.realm_data.specs.declared.realm_parts.RealmParts.{RealmParts}
use Rattle.asks.specs.declared.ask.NewTab.{NewTab}
use Rattle.facts.specs.declared.fact.Fact.{Fact}
use Rattle.facts.specs.declared.fact.Fact.TheVariants as events
use Rattle.facts.specs.declared.tabs.Opening.{Opening}
use Rattle.facts.specs.Realms.{last_version}
use Rattle.facts.specs.Roots.{root_is_known, roots_known, tabs_known, tabs_known_in, session_of}
use Rattle.facts.specs.Serials.{last_tab_serial}
use Rattle.facts.specs.Tabs.{tab_state, live_among}
use Rattle.hall_answers.specs.declared.answer.Answer.{Answer}
use Rattle.hall_answers.specs.declared.refusal.Refusal.{Refusal}
use Rattle.hall_answers.specs.declared.refusal.Refusal.TheVariants.{UnknownClient, LevelUnknown, TooManyRoots, TooManyTabs}
use Rattle.hall_answers.specs.Answers.{after_facts, with_root}
use Rattle.hall_answers.specs.Ids.{root_key, tab_key}
use Rattle.hall_answers.specs.Refusals.{◌>>=◌, settled}
use Rattle.hall_answers.specs.Setting.{Setting}
use Rattle.login_progress.specs.declared.known_tab.KnownTab.{KnownTab}
use Rattle.root_asks.specs.declared.place.GivenRoot.{GivenRoot}
use Rattle.root_asks.specs.declared.place.Place.{Place}
use Rattle.tab_pages.specs.Pages.{seen_now, visit_answer}

-- ---- the level

abbrev pub level_from : Option Client → Result ℕ Refusal
level_from None = Err UnknownClient
level_from (Some client) = Ok client.level

abbrev pub client_named : List Client → List ℕ → Option Client
client_named clients id = find (λ (client : Client). bytes_eq client.id id) clients

-- the realm has a client of this id: its level
unfoldable pub check_client : RealmParts → List ℕ → Result ℕ Refusal
check_client realm id = level_from (client_named realm.clients id)

abbrev pub acr_from : Option AcrLevel → Result ℕ Refusal
acr_from None = Err LevelUnknown
acr_from (Some acr) = Ok acr.level

abbrev pub acr_named : List AcrLevel → List ℕ → Option AcrLevel
acr_named levels name = find (λ (acr : AcrLevel). bytes_eq acr.name name) levels

-- the realm has a level of this name; where none is named, it is 0
unfoldable pub check_acr : RealmParts → Option (List ℕ) → Result ℕ Refusal
check_acr realm None = Ok 0
check_acr realm (Some name) = acr_from (acr_named realm.acr name)

-- the level that an open asks: its client's, or that of the name, whichever is greater
unfoldable pub check_level : RealmParts → NewTab → Result ℕ Refusal
check_level realm new = do
  own ← check_client realm new.client
  named ← check_acr realm new.acr
  Ok (max own named)

-- ---- the root

-- a root as it stands: its live session, and whether it has fewer tabs that are known than it may have
abbrev pub given_root : Setting → RootKey → GivenRoot
given_root setting root =
    record {
      root = root;
      live = live_among setting.moment (session_of root setting.facts);
      has_room = nat_lt (tabs_known_in setting.moment root setting.facts) 300;
    }

-- the root is known; one above the counter was never made
abbrev pub is_given : Setting → RootKey → Bool
is_given setting root = nat_le root.0.serial (last_tab_serial setting.facts) && root_is_known setting.moment setting.facts root

-- the root that is given, where it is known
unfoldable pub root_given : Setting → Option RootKey → Option GivenRoot
root_given setting None = None
root_given setting (Some root) = if is_given setting root then Some (given_root setting root) else None

-- where a new root is needed, fewer are known than may be
unfoldable pub check_roots : Setting → Option GivenRoot → Result (Unit {0}) Refusal
check_roots setting (Some given) = Ok tt
check_roots setting None = if nat_lt (roots_known setting.moment setting.facts) 65536 then Ok tt else Err TooManyRoots

-- the root has fewer known tabs than it may have
abbrev pub check_root_tabs : Option GivenRoot → Result (Unit {0}) Refusal
check_root_tabs None = Ok tt
check_root_tabs (Some given) = if given.has_room then Ok tt else Err (TooManyTabs 300)

-- fewer tabs are known in all roots than may be
unfoldable pub check_tabs : Setting → Result (Unit {0}) Refusal
check_tabs setting = if nat_lt (tabs_known setting.moment setting.facts) 262144 then Ok tt else Err (TooManyTabs 262144)

-- there is room for a tab in the given root, or for a new root with a tab
unfoldable pub check_room : Setting → Option GivenRoot → Result (Unit {0}) Refusal
check_room setting given = do
  roots ← check_roots setting given
  own ← check_root_tabs given
  check_tabs setting

-- ---- the place

-- a new root has the next serial
abbrev pub new_root_key : Setting → RootKey
new_root_key setting = root_key (last_tab_serial setting.facts + 1) setting.draws

-- a tab has the next serial, after that of a new root
abbrev pub place_at : Setting → ℕ → Option GivenRoot → Place
place_at setting level (Some given) =
    record { root = given.root; tab = tab_key (last_tab_serial setting.facts + 1) setting.draws; level = level; live = given.live }
place_at setting level None =
    record {
      root = new_root_key setting;
      tab = tab_key (last_tab_serial setting.facts + 2) setting.draws;
      level = level;
      live = live_among setting.moment (session_of (new_root_key setting) setting.facts);
    }

-- neither its root nor its tab is above the next two serials
pub record IsNext (setting : Setting) (place : Place) : Type 0 where
  pub root : place.root.0.serial ≤ last_tab_serial setting.facts + 1
  pub tab : place.tab.0.serial ≤ last_tab_serial setting.facts + 2

-- where a tab is opened, and the level that it asks, or the first refusal
unfoldable pub check_new_tab : Setting → NewTab → Result Place Refusal
check_new_tab setting new = do
  level ← check_level setting.realm new
  room ← check_room setting (root_given setting new.root)
  Ok (place_at setting level (root_given setting new.root))

-- ---- the answer

-- a tab has the realm's version in force, and lives as long as the realm says, here in milliseconds
abbrev pub opening_at : Setting → Place → Opening
opening_at setting place =
    record { version = last_version setting.facts; level = place.level; life = 1000 * setting.realm.session.tab; moment = setting.moment }

abbrev pub opening_fact : Setting → Place → Fact
opening_fact setting place =
    events.Opened place.root place.tab (last_version setting.facts) place.level (1000 * setting.realm.session.tab) setting.moment

-- a live session of the root is seen, and the tab is opened
abbrev pub opening_facts : Setting → Place → List Fact
opening_facts setting place = seen_now setting place.live ++ opening_fact setting place ∷ []

abbrev pub facts_opened : Setting → Place → List Fact
facts_opened setting place = setting.facts ++ opening_facts setting place

-- the tab that was just opened
abbrev pub tab_opened : List Fact → Setting → Place → KnownTab
tab_opened facts setting place =
    record {
      root = place.root;
      tab = place.tab;
      opening = opening_at setting place;
      state = tab_state place.root place.tab facts;
    }

-- what the new tab is answered; the opening stays, whatever comes after
unfoldable pub new_tab_answer : Setting → Place → Answer
new_tab_answer setting place =
    let more = facts_opened setting place in
    with_root place.root (after_facts (opening_facts setting place) (visit_answer more setting (tab_opened more setting place)))

unfoldable pub due_new_tab : Setting → NewTab → Answer
due_new_tab setting new = settled setting.facts None (new_tab_answer setting) (check_new_tab setting new)
