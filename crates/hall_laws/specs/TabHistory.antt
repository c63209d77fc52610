-- What the facts say of a tab: by the last fact of a kind, and by what stands behind it.
use Rattle.std.specs.Prelude.{ℕ, Bool, false, ◌&&◌, List, Option, Some, None, unwrap_or, option_and_then, if◌then◌else◌}
use Rattle.std.specs.List.{list_any}
use Rattle.login_base.specs.IdText.{same_id}
use Rattle.login_base.specs.declared.id.RootKey.{RootKey}
use Rattle.login_base.specs.declared.id.SessionId.{SessionId}
use Rattle.login_base.specs.declared.id.TabKey.{TabKey}
use Rattle.login_base.specs.declared.id.UserId.{UserId}
use Rattle.facts.specs.declared.fact.Fact.{Fact}
use Rattle.facts.specs.declared.fact.Fact.TheVariants as events
use Rattle.facts.specs.declared.tabs.Opening.{Opening}
use Rattle.facts.specs.declared.tabs.Page.{Page}
use Rattle.facts.specs.declared.tabs.RootSession.{RootSession}
use Rattle.facts.specs.Places.{last_of, after_last}
use Rattle.facts.specs.Tabs.{is_root}

-- ---- of the tab

-- with what a fact opens the tab in this root
abbrev pub opening_by : RootKey → TabKey → Fact → Option Opening
opening_by root tab (events.Opened of opened version level life moment) =
    if same_id opened.0 tab.0 && same_id of.0 root.0
    then Some (record { version = version; level = level; life = life; moment = moment }) else None
opening_by root tab event = None

-- a page of the tab
abbrev pub page_by : TabKey → Fact → Option Page
page_by tab (events.Rendered of code action offer) =
    if same_id of.0 tab.0 then Some (record { code = code; action = action; offer = offer }) else None
page_by tab event = None

-- whom a fact names in the tab
abbrev pub name_by : TabKey → Fact → Option UserId
name_by tab (events.Named of user) = if same_id of.0 tab.0 then Some user else None
name_by tab event = None

-- a fact opens the tab, in whatever root
abbrev pub root_by : TabKey → Fact → Option RootKey
root_by tab (events.Opened root of version level life moment) = if same_id of.0 tab.0 then Some root else None
root_by tab event = None

abbrev pub completes : TabKey → Fact → Bool
completes tab (events.Completed of user session moment) = same_id of.0 tab.0
completes tab event = false

-- the tab completed behind its last opening
abbrev pub is_completed : TabKey → List Fact → Bool
is_completed tab facts = list_any (completes tab) (after_last (root_by tab) facts)

-- ---- of the root

-- the session that a fact begins in the root
abbrev pub session_by : RootKey → Fact → Option RootSession
session_by root (events.Session session of user moment idle most) =
    if is_root root of
    then Some (record { session = session; user = user; opened = moment; seen = moment; idle = idle; max = most })
    else None
session_by root event = None

-- the moment at which a fact uses the session
abbrev pub use_by : SessionId → Fact → Option ℕ
use_by session (events.Seen of moment) = if same_id session.0 of.0 then Some moment else None
use_by session event = None

abbrev pub ends : SessionId → Fact → Bool
ends session (events.SessionEnd of) = same_id session.0 of.0
ends session event = false

-- a session behind whose beginning these facts stand: none where one of them ends it; else it was seen at its last use
abbrev pub session_behind : List Fact → RootSession → Option RootSession
session_behind later own =
    if list_any (ends own.session) later then None
    else Some (record own { seen = unwrap_or (last_of (use_by own.session) later) own.seen })

-- the session that the root began last, unless it was ended
abbrev pub last_session : RootKey → List Fact → Option RootSession
last_session root facts =
    option_and_then (session_behind (after_last (session_by root) facts)) (last_of (session_by root) facts)
