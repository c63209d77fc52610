-- What the facts say of the levels that a session has reached.
use Rattle.std.specs.Prelude.{ℕ, ◌&&◌, ◌==◌, Option, Some, None, List, unwrap_or, if◌then◌else◌}
use Rattle.login_base.specs.IdText.{same_id}
use Rattle.login_base.specs.declared.id.RootKey.{RootKey}
use Rattle.login_base.specs.declared.id.SessionId.{SessionId}
use Rattle.facts.specs.declared.fact.Fact.{Fact}
use Rattle.facts.specs.declared.fact.Fact.TheVariants as events
use Rattle.facts.specs.declared.tabs.RootSession.{RootSession}
use Rattle.facts.specs.Places.{last_of, after_last}
use Rattle.hall_laws.specs.TabHistory.{session_by, use_by}

-- the moment at which a fact records the level of the session
abbrev pub reached_by : SessionId → ℕ → Fact → Option ℕ
reached_by session level (events.Level of own moment) =
    if same_id of.0 session.0 && own == level then Some moment else None
reached_by session level event = None

-- the moment at which the session reached the level last, if it ever did
abbrev pub last_reached : SessionId → ℕ → List Fact → Option ℕ
last_reached session level facts = last_of (reached_by session level) facts

-- what stands behind the beginning of the root's last session
abbrev pub behind_beginning : RootKey → List Fact → List Fact
behind_beginning root facts = after_last (session_by root) facts

-- the moment at which the root's last session was used last; its beginning is a use
abbrev pub last_used : RootKey → RootSession → List Fact → ℕ
last_used root begun facts = unwrap_or (last_of (use_by begun.session) (behind_beginning root facts)) begun.seen
