-- The ids of an ask: a serial, and two of its draws.
use Rattle.std.specs.Prelude.{ℕ, ◌+◌, List, slice_index}
use Rattle.login_base.specs.declared.id.Id.{Id}
use Rattle.login_base.specs.declared.id.RootKey.{RootKey}
use Rattle.login_base.specs.declared.id.TabKey.{TabKey}
use Rattle.login_base.specs.declared.id.Code.{Code}
use Rattle.login_base.specs.declared.id.SessionId.{SessionId}
use Rattle.login_base.specs.declared.id.TokenKey.{TokenKey}
use Rattle.login_base.specs.declared.draws.Draws.{Draws}
use Rattle.facts.specs.declared.fact.Fact.{Fact}
use Rattle.facts.specs.Serials.{last_tab_serial, last_stored_serial}

-- the serial, with the draws at this place and the next
abbrev pub id_at : ℕ → ℕ → Draws → Id
id_at serial place draws = record { serial = serial; high = slice_index draws.0 place; low = slice_index draws.0 (place + 1) }

-- a root has the draws 0 and 1
abbrev pub root_key : ℕ → Draws → RootKey
root_key serial draws = record { 0 = id_at serial 0 draws }

-- a tab has the draws 2 and 3
abbrev pub tab_key : ℕ → Draws → TabKey
tab_key serial draws = record { 0 = id_at serial 2 draws }

-- a code has the draws 4 and 5
abbrev pub code_at : ℕ → Draws → Code
code_at serial draws = record { 0 = id_at serial 4 draws }

-- a session has the draws 6 and 7
abbrev pub session_at : ℕ → Draws → SessionId
session_at serial draws = record { 0 = id_at serial 6 draws }

-- so has a token
abbrev pub token_at : ℕ → Draws → TokenKey
token_at serial draws = record { 0 = id_at serial 6 draws }

-- a new code has the serial after the last one of roots, tabs and codes
abbrev pub next_code : List Fact → Draws → Code
next_code facts draws = code_at (last_tab_serial facts + 1) draws

-- a new session has the serial after the last one of users, secrets, sessions and tokens
abbrev pub next_session : List Fact → Draws → SessionId
next_session facts draws = session_at (last_stored_serial facts + 1) draws

-- a new token has the next of the same serials
abbrev pub next_token : List Fact → Draws → TokenKey
next_token facts draws = token_at (last_stored_serial facts + 1) draws
