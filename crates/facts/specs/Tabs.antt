-- What the facts say of a tab: fact by fact.
use Rattle.std.specs.Prelude.{ℕ, ◌+◌, ◌-◌, ◌*◌, Bool, true, false, ◌&&◌, nat_lt, List, Option, Some, None, option_map, fold, if◌then◌else◌}
use Rattle.login_base.specs.IdText.{same_id}
use Rattle.login_base.specs.declared.id.Code.{Code}
use Rattle.login_base.specs.declared.id.RootKey.{RootKey}
use Rattle.login_base.specs.declared.id.SessionId.{SessionId}
use Rattle.login_base.specs.declared.id.TabKey.{TabKey}
use Rattle.login_base.specs.declared.id.UserId.{UserId}
use Rattle.facts.specs.declared.fact.Fact.{Fact}
use Rattle.facts.specs.declared.fact.Fact.TheVariants as events
use Rattle.facts.specs.declared.tabs.Opening.{Opening}
use Rattle.facts.specs.declared.tabs.Page.{Page}
use Rattle.facts.specs.declared.tabs.RootSession.{RootSession}
use Rattle.facts.specs.declared.tabs.TabState.{TabState}

-- ---- the session of a root

abbrev pub is_root : RootKey → Option RootKey → Bool
is_root root None = false
is_root root (Some of) = same_id of.0 root.0

-- a use of the session moves its last use
abbrev pub seen_at : SessionId → ℕ → Option RootSession → Option RootSession
seen_at session moment None = None
seen_at session moment (Some own) = Some (if same_id own.session.0 session.0 then record own { seen = moment } else own)

-- its end takes it from the root; an earlier one doesn't come back
abbrev pub ended_by : SessionId → Option RootSession → Option RootSession
ended_by session None = None
ended_by session (Some own) = if same_id own.session.0 session.0 then None else Some own

-- the last session of the root, unless it was ended
abbrev pub session_after : RootKey → Option RootSession → Fact → Option RootSession
session_after root own (events.Session session of user moment idle most) =
    if is_root root of then Some (record { session = session; user = user; opened = moment; seen = moment; idle = idle; max = most }) else own
session_after root own (events.Seen session moment) = seen_at session moment own
session_after root own (events.SessionEnd session) = ended_by session own
session_after root own fact = own

-- it was used less than `idle` seconds ago, and began less than `max` seconds ago
abbrev pub is_live : ℕ → RootSession → Bool
is_live now own = nat_lt (now - own.seen) (1000 * own.idle) && nat_lt (now - own.opened) (1000 * own.max)

abbrev pub live_among : ℕ → Option RootSession → Option RootSession
live_among now None = None
live_among now (Some own) = if is_live now own then Some own else None

-- ---- the tab

-- the moment is before the end of so many lives after the opening, each in milliseconds
abbrev pub is_within_lives : ℕ → ℕ → Opening → Bool
is_within_lives lives now opening = nat_lt now (opening.moment + lives * opening.life)

-- the tab lives for one life; then it is expired
abbrev pub tab_is_live : ℕ → Opening → Bool
tab_is_live now opening = is_within_lives 1 now opening

-- it is known for two; then it is forgotten
abbrev pub tab_is_known : ℕ → Opening → Bool
tab_is_known now opening = is_within_lives 2 now opening

-- with what it was opened in this root
abbrev pub opening_after : RootKey → TabKey → Option Opening → Fact → Option Opening
opening_after root tab own (events.Opened of opened version level life moment) =
    if same_id opened.0 tab.0 && same_id of.0 root.0
    then Some (record { version = version; level = level; life = life; moment = moment }) else own
opening_after root tab own fact = own

-- the page that was shown last in it
abbrev pub page_after : TabKey → Option Page → Fact → Option Page
page_after tab own (events.Rendered of code action offer) = if same_id of.0 tab.0 then Some (record { code = code; action = action; offer = offer }) else own
page_after tab own fact = own

-- the user that was named last in it
abbrev pub named_after : TabKey → Option UserId → Fact → Option UserId
named_after tab own (events.Named of user) = if same_id of.0 tab.0 then Some user else own
named_after tab own fact = own

-- it has completed after its opening
abbrev pub completed_after : TabKey → Bool → Fact → Bool
completed_after tab own (events.Opened root of version level life moment) = if same_id of.0 tab.0 then false else own
completed_after tab own (events.Completed of user session moment) = if same_id of.0 tab.0 then true else own
completed_after tab own fact = own

abbrev pub tab_after : RootKey → TabKey → TabState → Fact → TabState
tab_after root tab own fact =
    record {
      opening = opening_after root tab own.opening fact;
      page = page_after tab own.page fact;
      named = named_after tab own.named fact;
      completed = completed_after tab own.completed fact;
      session = session_after root own.session fact;
    }

-- nothing is known of it
abbrev pub no_tab : TabState
no_tab = record { opening = None; page = None; named = None; completed = false; session = None }

-- what is known of a tab of a root
unfoldable pub tab_state : RootKey → TabKey → List Fact → TabState
tab_state root tab facts = fold (tab_after root tab) no_tab facts

-- the code of the page that was shown last
abbrev pub shown_code : TabState → Option Code
shown_code tab = option_map (λ (page : Page). page.code) tab.page

-- the session that the root has now
abbrev pub live_session : ℕ → TabState → Option RootSession
live_session now tab = live_among now tab.session

abbrev pub user_among : Option RootSession → Option UserId → Option UserId
user_among (Some own) named = Some own.user
user_among None named = named

-- whose login it is: that of the user of the live session, else of the user that was named last
abbrev pub who_of : ℕ → TabState → Option UserId
who_of now tab = user_among (live_session now tab) tab.named
