-- What facts say of a session, a token and a secret by its key.
use Rattle.std.specs.Prelude.{ℕ, ◌==◌, List, Option, Some, None, fold, filter, if◌then◌else◌}
use Rattle.login_base.specs.IdText.{same_id}
use Rattle.login_base.specs.declared.id.SessionId.{SessionId}
use Rattle.login_base.specs.declared.id.TokenKey.{TokenKey}
use Rattle.login_base.specs.declared.id.UserId.{UserId}
use Rattle.realm_data.specs.declared.action.Action.{Action}
use Rattle.facts.specs.declared.fact.Fact.{Fact}
use Rattle.facts.specs.declared.fact.Fact.TheVariants as events
use Rattle.facts.specs.declared.tabs.RootSession.{RootSession}
use Rattle.facts.specs.Actions.{is_pending, in_order}
use Rattle.facts.specs.Places.{last_of}
use Rattle.fact_rows.specs.declared.holder.Holder.{Holder}
use Rattle.fact_rows.specs.declared.kept_token.KeptToken.{KeptToken}

-- ---- sessions

abbrev pub used_at : ℕ → Option RootSession → Option RootSession
used_at moment None = None
used_at moment (Some own) = Some (record own { seen = moment })

-- the session of this id after one more fact: it begins, is used, or ends
abbrev pub kept_after : SessionId → Option RootSession → Fact → Option RootSession
kept_after id own (events.Session of root user moment idle most) =
    if same_id of.0 id.0 then Some (record { session = of; user = user; opened = moment; seen = moment; idle = idle; max = most }) else own
kept_after id own (events.Seen of moment) = if same_id of.0 id.0 then used_at moment own else own
kept_after id own (events.SessionEnd of) = if same_id of.0 id.0 then None else own
kept_after id own fact = own

-- the session of this id, unless it has ended
unfoldable pub session_kept : SessionId → List Fact → Option RootSession
session_kept id facts = fold (kept_after id) None facts

-- ---- tokens

-- the token that a fact makes with this key
abbrev pub token_made_as : TokenKey → Fact → Option KeptToken
token_made_as key (events.TokenMade of user kind expiry) =
    if same_id of.0 key.0 then Some (record { user = user; kind = kind; expiry = expiry }) else None
token_made_as key fact = None

-- the token of this key
unfoldable pub token_kept : TokenKey → List Fact → Option KeptToken
token_kept key facts = last_of (token_made_as key) facts

-- ---- secrets

-- whose secret of which kind a fact sets with this serial
abbrev pub set_as : ℕ → Fact → Option Holder
set_as serial (events.SecretSet user kind own secret by) = if own == serial then Some (record { user = user; kind = kind }) else None
set_as serial fact = None

-- whose secret of which kind was set with this serial last
unfoldable pub holder_of : ℕ → List Fact → Option Holder
holder_of serial facts = last_of (set_as serial) facts

-- ---- actions

-- the actions that are pending for a user, in the order in which they are asked
abbrev pub pending_of : UserId → List Fact → List Action
pending_of user facts = filter (is_pending user facts) in_order
