-- The sessions that stand: those that haven't been ended, whether they live or not.
use Rattle.std.specs.Prelude.{ℕ, Bool, true, false, not, List, [], ◌∷◌, ◌++◌, Option, Some, None, unwrap_or, option_to_list, filter, fold, if◌then◌else◌}
use Rattle.login_base.specs.IdText.{same_id}
use Rattle.login_base.specs.declared.id.SessionId.{SessionId}
use Rattle.facts.specs.declared.fact.Fact.{Fact}
use Rattle.facts.specs.declared.fact.Fact.TheVariants as events
use Rattle.facts.specs.declared.tabs.RootSession.{RootSession}
use Rattle.facts.specs.Places.{last_of}
use Rattle.facts.specs.Tabs.{seen_at, ended_by, is_live}

-- ---- one session

-- a fact begins the session or ends it
abbrev pub stands_by : SessionId → Fact → Option Bool
stands_by session (events.Session of root user moment idle most) = if same_id of.0 session.0 then Some true else None
stands_by session (events.SessionEnd of) = if same_id of.0 session.0 then Some false else None
stands_by session event = None

-- there is a session of this id, and it hasn't been ended
unfoldable pub is_standing : SessionId → List Fact → Bool
is_standing session facts = unwrap_or (last_of (stands_by session) facts) false

-- ---- all of them

-- the session that a fact begins, in a root or in none
abbrev pub session_begun : Fact → Option RootSession
session_begun (events.Session session root user moment idle most) =
    Some (record { session = session; user = user; opened = moment; seen = moment; idle = idle; max = most })
session_begun event = None

-- what one more fact makes of a session: it is used, or ended
abbrev pub session_later : Option RootSession → Fact → Option RootSession
session_later own (events.Seen session moment) = seen_at session moment own
session_later own (events.SessionEnd session) = ended_by session own
session_later own event = own

-- the session that a fact begins, after the facts behind it
abbrev pub session_left : Fact → List Fact → Option RootSession
session_left begins later = fold session_later (session_begun begins) later

-- the sessions that haven't been ended, in the order in which they began
unfoldable pub standing_sessions : List Fact → List RootSession
standing_sessions [] = []
standing_sessions (fact ∷ later) = option_to_list (session_left fact later) ++ standing_sessions later

-- those of them that don't live any more
abbrev pub outlived_sessions : ℕ → List Fact → List RootSession
outlived_sessions now facts = filter (λ (own : RootSession). not (is_live now own)) (standing_sessions facts)
