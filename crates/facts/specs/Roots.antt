-- The tabs and the roots that are known.
use Rattle.std.specs.Prelude.{ℕ, Bool, false, ◌&&◌, ◌||◌, List, Option, Some, None, is_some, filter, filter_map, fold, length, if◌then◌else◌}
use Rattle.std.specs.List.{list_any}
use Rattle.std.specs.Set.{distinct_count}
use Rattle.login_base.specs.IdText.{same_id}
use Rattle.login_base.specs.declared.id.RootKey.{RootKey}
use Rattle.facts.specs.declared.fact.Fact.{Fact}
use Rattle.facts.specs.declared.fact.Fact.TheVariants as events
use Rattle.facts.specs.declared.tabs.Opening.{Opening}
use Rattle.facts.specs.declared.tabs.RootSession.{RootSession}
use Rattle.facts.specs.Tabs.{is_root, live_among, session_after, tab_is_known}

-- ---- tabs, which are counted by their openings

-- with what a fact opens a tab
abbrev pub opening_in : Fact → Option Opening
opening_in (events.Opened root tab version level life moment) = Some (record { version = version; level = level; life = life; moment = moment })
opening_in event = None

abbrev pub is_known_opening : ℕ → Option Opening → Bool
is_known_opening now None = false
is_known_opening now (Some opening) = tab_is_known now opening

-- a fact opens a tab that is known at the moment
abbrev pub opens_known : ℕ → Fact → Bool
opens_known now fact = is_known_opening now (opening_in fact)

-- the root in which a fact opens a tab
abbrev pub opened_root : Fact → Option RootKey
opened_root (events.Opened root tab version level life moment) = Some root
opened_root event = None

-- a fact opens a tab of the root that is known at the moment
abbrev pub opens_known_in : ℕ → RootKey → Fact → Bool
opens_known_in now root fact = is_root root (opened_root fact) && opens_known now fact

-- how many tabs of the root are known
unfoldable pub tabs_known_in : ℕ → RootKey → List Fact → ℕ
tabs_known_in now root facts = length (filter (opens_known_in now root) facts)

-- how many tabs are known in all roots
unfoldable pub tabs_known : ℕ → List Fact → ℕ
tabs_known now facts = length (filter (opens_known now) facts)

-- ---- roots

-- the session that the root began last, unless it was ended
unfoldable pub session_of : RootKey → List Fact → Option RootSession
session_of root facts = fold (session_after root) None facts

-- a root is known that has a known tab or a live session
unfoldable pub root_is_known : ℕ → List Fact → RootKey → Bool
root_is_known now facts root = list_any (opens_known_in now root) facts || is_some (live_among now (session_of root facts))

-- the root in which a fact opens a tab or begins a session
abbrev pub root_in : Fact → Option RootKey
root_in (events.Opened root tab version level life moment) = Some root
root_in (events.Session session root user moment idle most) = root
root_in event = None

abbrev pub if_known : ℕ → List Fact → Option RootKey → Option RootKey
if_known now facts None = None
if_known now facts (Some root) = if root_is_known now facts root then Some root else None

-- the root that a fact names, where it is known
abbrev pub known_root_in : ℕ → List Fact → Fact → Option RootKey
known_root_in now facts fact = if_known now facts (root_in fact)

abbrev pub same_root : RootKey → RootKey → Bool
same_root root other = same_id root.0 other.0

-- how many roots are known: each counts once
unfoldable pub roots_known : ℕ → List Fact → ℕ
roots_known now facts = distinct_count same_root (filter_map (known_root_in now facts) facts)
