-- The rules of tables, and the first row that breaks one.
use Rattle.std.specs.Prelude.{◌≡◌, ℤ, pos, ℕ, ◌+◌, ◌-◌, ◌==◌, ◌&&◌, ◌||◌, Bool, false, not, max, nat_le, nat_lt, List, [], ◌∷◌, ◌++◌, length, map, fold, position, Option, Some, None, option_map, option_and_then, if◌then◌else◌}
use Rattle.std.specs.List.{list_any}
use Rattle.std.specs.BTreeSet.{BTreeSet, contains}
use Rattle.std.specs.Option.{option_map_or, option_or}
use Rattle.std.specs.Ordering.{nat_cmp}
use Rattle.std.specs.Str.{bytes_eq}
use Rattle.login_base.specs.IdText.{id_of}
use Rattle.login_base.specs.declared.id.Id.{Id}
use Rattle.conditions.specs.declared.secret_kind.SecretKind.{SecretKind}
use Rattle.conditions.specs.declared.secret_kind.SecretKind.TheVariants as kinds
use Rattle.keeper_rows.specs.declared.rows.RealmRow.{RealmRow}
use Rattle.keeper_rows.specs.declared.rows.AccountRow.{AccountRow}
use Rattle.keeper_rows.specs.declared.rows.SecretRow.{SecretRow}
use Rattle.keeper_rows.specs.declared.rows.SessionRow.{SessionRow}
use Rattle.keeper_rows.specs.declared.rows.TokenRow.{TokenRow}
use Rattle.keeper_rows.specs.declared.rows.MarkRow.{MarkRow}
use Rattle.keeper_rows.specs.declared.tables.Tables.{Tables}
use Rattle.keeper_rules.specs.declared.holder.Holder.{Holder}
use Rattle.keeper_columns.specs.declared.levels.ReachedLevel.{ReachedLevel}
use Rattle.keeper_rules.specs.declared.misfit.Misfit.{Misfit}
use Rattle.keeper_rules.specs.declared.stamp.Stamp.{Stamp}
use Rattle.keeper_rules.specs.Order.{tables_in_order}
use Rattle.keeper_columns.specs.Ranges.{is_within, is_serial, natural, is_above, is_step_above}
use Rattle.keeper_rules.specs.Repeats.{first_repeat, earlier}
use Rattle.keeper_rules.specs.Rows.{is_realm_row, is_account, is_secret, is_session, is_token, is_mark}
use Rattle.keeper_columns.specs.Words.{secret_kind, levels_in, steps_in, newest_step}

-- the place of the first item that doesn't pass
abbrev pub first_failing : {A : Type 0} → (A → Bool) → List A → Option ℕ
first_failing test items = position (λ item. not (test item)) items

-- a row at a place breaks a rule
abbrev pub broken : ℕ → Option ℕ → Option Misfit
broken rule place = option_map (λ (at : ℕ). record { rule = rule; row = at + 1 }) place

-- ---- 1: one mark row, or no row at all

abbrev pub has_no_rows : Tables → Bool
has_no_rows t =
    length t.realms == 0 && length t.accounts == 0 && length t.secrets == 0 && length t.sessions == 0
    && length t.tokens == 0 && length t.marks == 0

abbrev pub mark_misfit : Tables → Option Misfit
mark_misfit t = if length t.marks == 1 || has_no_rows t then None else Some (record { rule = 1; row = 1 })

-- ---- 2: at most one realm row, with a version in its range

abbrev pub second_realm : List RealmRow → Option ℕ
second_realm realms = if nat_le 2 (length realms) then Some 1 else None

abbrev pub realm_misfit : Tables → Option Misfit
realm_misfit t = broken 2 (earlier (first_failing is_realm_row t.realms) (second_realm t.realms))

-- ---- 3: accounts, whose names are distinct

abbrev pub same_name : AccountRow → AccountRow → Bool
same_name first second = bytes_eq first.name second.name

unfoldable pub repeated_name : List AccountRow → Option ℕ
repeated_name accounts = first_repeat same_name accounts

abbrev pub account_misfit : Tables → Option Misfit
account_misfit t = broken 3 (earlier (first_failing is_account t.accounts) (repeated_name t.accounts))

-- ---- 4: secrets, one of a user and kind

-- an account has this id
abbrev pub is_user : List AccountRow → ℤ → Bool
is_user accounts user = is_serial user && list_any (λ (a : AccountRow). natural user == natural a.id) accounts

-- the set has the ids of the accounts
abbrev pub AreUsers : BTreeSet ℕ → List AccountRow → Type 0
AreUsers users accounts =
    (n : ℕ) → contains nat_cmp users n ≡ list_any (λ (a : AccountRow). n == natural a.id) accounts

-- the set has this id, which is in its range
abbrev pub is_user_in : BTreeSet ℕ → ℤ → Bool
is_user_in users user = is_serial user && contains nat_cmp users (natural user)

-- the place of the first row whose user isn't there
abbrev pub first_userless : {R : Type 0} → (R → ℤ) → List AccountRow → List R → Option ℕ
first_userless user accounts rows = first_failing (λ row. is_user accounts (user row)) rows

abbrev pub secret_user : SecretRow → ℤ
secret_user r = r.user

abbrev pub kind_number : Option SecretKind → ℕ
kind_number None = 0
kind_number (Some kinds.Password) = 1
kind_number (Some kinds.Otp) = 2
kind_number (Some kinds.Recovery) = 3

abbrev pub holder_of : SecretRow → Holder
holder_of r = record { user = natural r.user; kind = kind_number (secret_kind r.kind) }

abbrev pub same_holder : SecretRow → SecretRow → Bool
same_holder first second =
    (holder_of first).user == (holder_of second).user && (holder_of first).kind == (holder_of second).kind

unfoldable pub repeated_holder : List SecretRow → Option ℕ
repeated_holder secrets = first_repeat same_holder secrets

abbrev pub secret_misfit : Tables → Option Misfit
secret_misfit t =
    broken 4 (earlier (first_failing is_secret t.secrets)
    (earlier (first_userless secret_user t.accounts t.secrets) (repeated_holder t.secrets)))

-- ---- 5 and 6: sessions and tokens of users

abbrev pub session_user : SessionRow → ℤ
session_user r = r.user

abbrev pub session_misfit : Tables → Option Misfit
session_misfit t =
    broken 5 (earlier (first_failing is_session t.sessions) (first_userless session_user t.accounts t.sessions))

abbrev pub token_user : TokenRow → ℤ
token_user r = r.user

abbrev pub token_misfit : Tables → Option Misfit
token_misfit t = broken 6 (earlier (first_failing is_token t.tokens) (first_userless token_user t.accounts t.tokens))

-- ---- 7: serials, moments and steps against the mark row, and distinct serials

-- the serial of an id, or 0 of a text that is none
abbrev pub serial_in : List ℕ → ℕ
serial_in text = option_map_or (λ (id : Id). id.serial) (id_of text) 0

abbrev pub moment_of : ℤ → Option ℕ
moment_of (pos n) = Some n
moment_of n = None

abbrev pub account_stamp : AccountRow → Stamp
account_stamp r = record { serial = natural r.id; moment = moment_of r.last; step = None }

-- the steps of a one-time code are spent
abbrev pub spent_step : Option SecretKind → List ℕ → Option ℕ
spent_step (Some kinds.Otp) spent = option_and_then newest_step (steps_in spent)
spent_step kind spent = None

abbrev pub secret_stamp : SecretRow → Stamp
secret_stamp r =
    record { serial = natural r.serial; moment = None; step = spent_step (secret_kind r.kind) r.spent }

-- the latest of a moment and those of levels
abbrev pub latest : ℕ → Option (List ReachedLevel) → ℕ
latest seen None = seen
latest seen (Some levels) = fold (λ moment (level : ReachedLevel). max moment level.moment) seen levels

abbrev pub session_stamp : SessionRow → Stamp
session_stamp r =
    record { serial = serial_in r.id; moment = Some (latest (natural r.seen) (levels_in r.levels)); step = None }

abbrev pub token_stamp : TokenRow → Stamp
token_stamp r = record { serial = serial_in r.key; moment = None; step = None }

-- what each row has a serial, a moment and a step of, the tables one after the other
abbrev pub stamps_of : Tables → List Stamp
stamps_of t =
    map account_stamp t.accounts ++ map secret_stamp t.secrets ++ map session_stamp t.sessions
    ++ map token_stamp t.tokens

abbrev pub is_timely : MarkRow → Stamp → Bool
is_timely mark s =
    not (is_above s.serial mark.serial) && not (option_map_or (λ n. is_above n mark.moment) s.moment false)
    && not (option_map_or (λ n. is_step_above n mark.moment) s.step false)

abbrev pub same_serial : Stamp → Stamp → Bool
same_serial first second = first.serial == second.serial

unfoldable pub repeated_serial : List Stamp → Option ℕ
repeated_serial stamps = first_repeat same_serial stamps

-- the place in its table of the row at a place in all of them
abbrev pub place_in : Tables → ℕ → ℕ
place_in t at =
    let secret = at - length t.accounts in
    let session = secret - length t.secrets in
    let token = session - length t.sessions in
    if nat_lt at (length t.accounts) then at
    else if nat_lt secret (length t.secrets) then secret
    else if nat_lt session (length t.sessions) then session
    else token

abbrev pub late_row : MarkRow → Tables → Option ℕ
late_row mark t =
    option_map (place_in t) (earlier (first_failing (is_timely mark) (stamps_of t)) (repeated_serial (stamps_of t)))

abbrev pub out_of_range : MarkRow → Option ℕ
out_of_range mark = if is_mark mark then None else Some 0

abbrev pub late_misfit_by : List MarkRow → Tables → Option Misfit
late_misfit_by [] t = None
late_misfit_by (mark ∷ marks) t = broken 7 (option_or (late_row mark t) (out_of_range mark))

abbrev pub late_misfit : Tables → Option Misfit
late_misfit t = late_misfit_by t.marks t

-- ---- all rules, the first one first

abbrev pub users_misfit : Tables → Option Misfit
users_misfit t =
    option_or (account_misfit t) (option_or (secret_misfit t) (option_or (session_misfit t)
    (option_or (token_misfit t) (late_misfit t))))

unfoldable pub misfit_in_order : Tables → Option Misfit
misfit_in_order t = option_or (mark_misfit t) (option_or (realm_misfit t) (users_misfit t))

-- the first rule that is broken, and the number of the first row that breaks it, by the order of keys
unfoldable pub misfit_of : Tables → Option Misfit
misfit_of t = misfit_in_order (tables_in_order t)

abbrev pub foreign_schema : ℤ → Option ℤ
foreign_schema schema = if is_within 1 1 schema then None else Some schema

abbrev pub foreign_mark : List MarkRow → Option ℤ
foreign_mark (mark ∷ []) = foreign_schema mark.schema
foreign_mark marks = None

-- the schema number of the one mark row, where there is one and it isn't 1
abbrev pub foreign_of : Tables → Option ℤ
foreign_of t = foreign_mark t.marks
