-- What each row keeps by itself.
use Rattle.std.specs.Prelude.{ℕ, ◌^◌, ◌&&◌, Bool, false, nat_le, List, Option, Some, None, is_some}
use Rattle.login_base.specs.Names.{is_name}
use Rattle.login_base.specs.IdText.{id_of}
use Rattle.login_base.specs.declared.id.Id.{Id}
use Rattle.conditions.specs.declared.secret_kind.SecretKind.{SecretKind}
use Rattle.keeper_rows.specs.declared.rows.RealmRow.{RealmRow}
use Rattle.keeper_rows.specs.declared.rows.AccountRow.{AccountRow}
use Rattle.keeper_rows.specs.declared.rows.SecretRow.{SecretRow}
use Rattle.keeper_rows.specs.declared.rows.SessionRow.{SessionRow}
use Rattle.keeper_rows.specs.declared.rows.TokenRow.{TokenRow}
use Rattle.keeper_rows.specs.declared.rows.MarkRow.{MarkRow}
use Rattle.keeper_columns.specs.Bodies.{is_kept}
use Rattle.keeper_columns.specs.Ranges.{is_within, is_flag, is_serial, is_count, is_moment, is_last, is_end, is_life, natural}
use Rattle.keeper_columns.specs.Words.{secret_kind, token_kind, roles_in, actions_in, levels_in}

abbrev pub is_realm_row : RealmRow → Bool
is_realm_row r = nat_le 1 r.version && nat_le r.version (2 ^ 62)

abbrev pub is_account : AccountRow → Bool
is_account r =
    is_serial r.id && is_name r.name && is_some (roles_in r.roles) && is_flag r.enabled && is_count r.count
    && is_last r.last && is_end r.until && is_flag r.permanent && is_some (actions_in r.actions)

-- the kind is one of three, and the secret is kept as one of that kind
abbrev pub is_kept_by_kind : Option SecretKind → SecretRow → Bool
is_kept_by_kind None r = false
is_kept_by_kind (Some kind) r = is_kept kind r.body r.spent

abbrev pub is_secret : SecretRow → Bool
is_secret r = is_serial r.serial && is_kept_by_kind (secret_kind r.kind) r

-- the text of an id whose serial is in its range
abbrev pub has_serial_in_range : Option Id → Bool
has_serial_in_range None = false
has_serial_in_range (Some id) = nat_le 1 id.serial && nat_le id.serial (2 ^ 62)

abbrev pub is_id : List ℕ → Bool
is_id text = has_serial_in_range (id_of text)

abbrev pub is_session : SessionRow → Bool
is_session r =
    is_id r.id && is_moment r.opened && is_moment r.seen && nat_le (natural r.opened) (natural r.seen)
    && is_life r.idle && is_life r.max && is_some (levels_in r.levels)

abbrev pub is_token : TokenRow → Bool
is_token r = is_id r.key && is_some (token_kind r.kind) && is_end r.expiry && is_flag r.spent

abbrev pub is_mark : MarkRow → Bool
is_mark r = is_within 0 (2 ^ 62) r.serial && is_moment r.moment
