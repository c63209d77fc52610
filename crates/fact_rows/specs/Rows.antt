-- The rows that facts give.
use Rattle.std.specs.Prelude.{ℕ, pos, ◌-◌, ◌^◌, ◌==◌, Bool, not, min, nat_lt, List, [], length, decimal, map, Option, Some, None, option_map, option_and_then, unwrap_or, if◌then◌else◌}
use Rattle.login_base.specs.IdText.{id_bytes}
use Rattle.login_base.specs.declared.id.SessionId.{SessionId}
use Rattle.login_base.specs.declared.id.TokenKey.{TokenKey}
use Rattle.login_base.specs.declared.id.UserId.{UserId}
use Rattle.lockout.specs.declared.standing.Standing.{Standing}
use Rattle.realm_data.specs.declared.realm_parts.RealmParts.{RealmParts}
use Rattle.conditions.specs.declared.secret_kind.SecretKind.{SecretKind}
use Rattle.conditions.specs.declared.secret_kind.SecretKind.TheVariants as kinds
use Rattle.keeper_columns.specs.declared.levels.ReachedLevel.{ReachedLevel}
use Rattle.keeper_rows.specs.declared.rows.RealmRow.{RealmRow}
use Rattle.keeper_rows.specs.declared.rows.AccountRow.{AccountRow}
use Rattle.keeper_rows.specs.declared.rows.SecretRow.{SecretRow}
use Rattle.keeper_rows.specs.declared.rows.SessionRow.{SessionRow}
use Rattle.keeper_rows.specs.declared.rows.TokenRow.{TokenRow}
use Rattle.keeper_rows.specs.declared.rows.MarkRow.{MarkRow}
use Rattle.facts.specs.declared.fact.Fact.{Fact}
use Rattle.facts.specs.declared.tabs.RootSession.{RootSession}
use Rattle.facts.specs.declared.user_password.UserPassword.{UserPassword}
use Rattle.facts.specs.Accounts.{name_of, roles_of, is_disabled}
use Rattle.facts.specs.Levels.{levels_of}
use Rattle.facts.specs.Realms.{current_realm, last_version}
use Rattle.facts.specs.Secrets.{password_of, otp_of, recovery_of, KeptOtp, KeptRecovery}
use Rattle.facts.specs.Serials.{last_stored_serial}
use Rattle.facts.specs.Spent.{spent_steps, codes_spent}
use Rattle.facts.specs.Tokens.{is_token_spent}
use Rattle.account_states.specs.Standings.{standing_of}
use Rattle.fact_columns.specs.Bodies.{password_body, recovery_body}
use Rattle.fact_columns.specs.Numbers.{column, flag, moment_or_none}
use Rattle.fact_columns.specs.Words.{secret_word, token_word, roles_text, actions_text, steps_text, levels_text}
use Rattle.fact_rows.specs.Found.{session_kept, token_kept, holder_of, pending_of}
use Rattle.fact_rows.specs.Stored.{has_rows}
use Rattle.fact_rows.specs.declared.holder.Holder.{Holder}
use Rattle.fact_rows.specs.declared.kept_token.KeptToken.{KeptToken}

-- a column holds the serial, so that a row can have it as its key; none comes so far that it doesn't
abbrev pub is_key : ℕ → Bool
is_key serial = nat_lt serial (2 ^ 63)

-- ---- the realm

abbrev pub realm_with : ℕ → RealmParts → RealmRow
realm_with version realm = record { version = version; realm = realm }

-- the realm in force, with its version
unfoldable pub realm_row : List Fact → Option RealmRow
realm_row facts = option_map (realm_with (last_version facts)) (current_realm facts)

-- ---- accounts

abbrev pub account_with : UserId → Standing → List Fact → List ℕ → AccountRow
account_with user standing facts name =
    record {
      id = pos user.0;
      name = name;
      roles = roles_text (unwrap_or (roles_of user facts) []);
      enabled = flag (not (is_disabled user facts));
      count = pos standing.count;
      last = moment_or_none standing.last;
      until = column standing.until;
      permanent = flag standing.permanent;
      actions = actions_text (pending_of user facts);
    }

-- the account of a user that was put
unfoldable pub account_row : UserId → List Fact → Option AccountRow
account_row user facts =
    if is_key user.0 then option_map (account_with user (standing_of user facts) facts) (name_of user facts) else None

-- ---- secrets

abbrev pub secret_with : ℕ → UserId → SecretKind → List ℕ → List ℕ → SecretRow
secret_with serial user kind body spent =
    record { serial = pos serial; user = column user.0; kind = secret_word kind; body = body; spent = spent }

-- the row, where the secret that the user has now is the one of the serial
abbrev pub if_own : ℕ → ℕ → SecretRow → Option SecretRow
if_own serial own row = if own == serial then Some row else None

abbrev pub password_row : ℕ → UserId → UserPassword → Option SecretRow
password_row serial user own = if_own serial own.serial (secret_with serial user kinds.Password (password_body own.hash) [])

abbrev pub otp_row : ℕ → UserId → List Fact → KeptOtp → Option SecretRow
otp_row serial user facts own =
    if_own serial own.serial (secret_with serial user kinds.Otp own.key (steps_text (spent_steps serial facts)))

-- how many codes are spent, of those that there are
abbrev pub spent_of : ℕ → List Fact → List (List ℕ) → ℕ
spent_of serial facts digests = min (codes_spent serial facts) (length digests)

abbrev pub recovery_row : ℕ → UserId → List Fact → KeptRecovery → Option SecretRow
recovery_row serial user facts own =
    if_own serial own.serial
    (secret_with serial user kinds.Recovery (recovery_body own.digests) (decimal (spent_of serial facts own.digests)))

-- the secret of the user and kind, where it has this serial
abbrev pub held_row : ℕ → List Fact → UserId → SecretKind → Option SecretRow
held_row serial facts user kinds.Password = option_and_then (password_row serial user) (password_of user facts)
held_row serial facts user kinds.Otp = option_and_then (otp_row serial user facts) (otp_of user facts)
held_row serial facts user kinds.Recovery = option_and_then (recovery_row serial user facts) (recovery_of user facts)

-- the secret of a serial, until it is replaced or taken away
unfoldable pub secret_row : ℕ → List Fact → Option SecretRow
secret_row serial facts =
    if is_key serial then option_and_then (λ (h : Holder). held_row serial facts h.user h.kind) (holder_of serial facts) else None

-- the serial of the secret that a user has of a kind
unfoldable pub secret_serial : UserId → SecretKind → List Fact → Option ℕ
secret_serial user kinds.Password facts = option_map (λ (own : UserPassword). own.serial) (password_of user facts)
secret_serial user kinds.Otp facts = option_map (λ (own : KeptOtp). own.serial) (otp_of user facts)
secret_serial user kinds.Recovery facts = option_map (λ (own : KeptRecovery). own.serial) (recovery_of user facts)

-- ---- sessions

abbrev pub reached : ℕ × ℕ → ReachedLevel
reached level = record { level = level.0; moment = min level.1 (2 ^ 53 - 1) }

abbrev pub session_with : SessionId → List Fact → RootSession → SessionRow
session_with id facts own =
    record {
      id = id_bytes id.0;
      user = column own.user.0;
      opened = pos own.opened;
      seen = pos own.seen;
      idle = column own.idle;
      max = column own.max;
      levels = levels_text (map reached (levels_of id facts));
    }

-- a session that hasn't ended
unfoldable pub session_row : SessionId → List Fact → Option SessionRow
session_row id facts = option_map (session_with id facts) (session_kept id facts)

-- ---- tokens

abbrev pub token_with : TokenKey → List Fact → KeptToken → TokenRow
token_with key facts own =
    record {
      key = id_bytes key.0;
      user = column own.user.0;
      kind = token_word own.kind;
      expiry = column own.expiry;
      spent = flag (is_token_spent key facts);
    }

-- a token that was made
unfoldable pub token_row : TokenKey → List Fact → Option TokenRow
token_row key facts = option_map (token_with key facts) (token_kept key facts)

-- ---- the mark

-- how far the stored serials have come, and the moment of the last change
unfoldable pub mark_with : ℕ → List Fact → MarkRow
mark_with moment facts = record { schema = pos 1; serial = column (last_stored_serial facts); moment = pos moment }

unfoldable pub mark_row : ℕ → List Fact → Option MarkRow
mark_row moment facts = if has_rows facts then Some (mark_with moment facts) else None
