-- The reports over the tables.
use Rattle.std.specs.Prelude.{ℕ, ℤ, pos, Bool, ◌||◌, List, [], ◌∷◌, codes, find, if◌then◌else◌}
use Rattle.std.specs.Fmt.{signed_decimal}
use Rattle.std.specs.List.{flat_map}
use Rattle.std.specs.Option.{option_map_or}
use Rattle.std.specs.Ordering.{nat_cmp, int_eq}
use Rattle.login_base.specs.IdText.{id_of}
use Rattle.login_base.specs.declared.id.Id.{Id}
use Rattle.keeper_rows.specs.Applied.{text_cmp}
use Rattle.keeper_rows.specs.declared.rows.AccountRow.{AccountRow}
use Rattle.keeper_rows.specs.declared.rows.SessionRow.{SessionRow}
use Rattle.keeper_rows.specs.declared.rows.TokenRow.{TokenRow}
use Rattle.keeper_rows.specs.declared.tables.Tables.{Tables}
use Rattle.keeper_reports.specs.Columns.{left_in, right_in, shown, line_of}
use Rattle.keeper_reports.specs.Order.{in_order}
use Rattle.keeper_reports.specs.declared.report.Report.{Report}
use Rattle.keeper_reports.specs.declared.report.Report.TheVariants as reports

-- ---- users

-- the account is disabled or permanent
abbrev pub is_off : AccountRow → Bool
is_off a = int_eq a.enabled (pos 0) || int_eq a.permanent (pos 1)

abbrev pub on_or_off : AccountRow → List ℕ
on_or_off a = if is_off a then codes "off" else codes "on"

-- name, id, `on` or `off`, count, actions
abbrev pub user_line : AccountRow → List ℕ
user_line a = line_of
    (left_in 32 a.name ∷ right_in 8 (signed_decimal a.id) ∷ left_in 3 (on_or_off a)
    ∷ right_in 6 (signed_decimal a.count) ∷ shown a.actions ∷ [])

-- by the bytes of names
abbrev pub users : Tables → List AccountRow
users t = in_order text_cmp (λ a. a.name) t.accounts

-- ---- sessions

-- the serial of an id, or 0 of a text that is none
abbrev pub serial_in : List ℕ → ℕ
serial_in text = option_map_or (λ (id : Id). id.serial) (id_of text) 0

-- the name of the first account of this id, or nothing
abbrev pub name_of : List AccountRow → ℤ → List ℕ
name_of accounts id = option_map_or (λ (a : AccountRow). a.name) (find (λ a. int_eq a.id id) accounts) []

-- id, the user's name, opened, seen, levels
abbrev pub session_line : List ℕ → SessionRow → List ℕ
session_line name s = line_of
    (s.id ∷ left_in 32 (shown name) ∷ right_in 16 (signed_decimal s.opened)
    ∷ right_in 16 (signed_decimal s.seen) ∷ shown s.levels ∷ [])

-- by serials
abbrev pub sessions : Tables → List SessionRow
sessions t = in_order nat_cmp (λ s. serial_in s.id) t.sessions

-- ---- tokens

abbrev pub spent_or_not : TokenRow → List ℕ
spent_or_not t = if int_eq t.spent (pos 1) then codes "spent" else codes "unspent"

-- key, the user's name, kind, expiry, `spent` or `unspent`
abbrev pub token_line : List ℕ → TokenRow → List ℕ
token_line name t = line_of
    (t.key ∷ left_in 32 (shown name) ∷ left_in 15 t.kind
    ∷ right_in 16 (signed_decimal t.expiry) ∷ spent_or_not t ∷ [])

-- by serials
abbrev pub tokens : Tables → List TokenRow
tokens t = in_order nat_cmp (λ t. serial_in t.key) t.tokens

-- ---- reports

-- one line for each row
abbrev pub users_text : Tables → List ℕ
users_text t = flat_map user_line (users t)

abbrev pub sessions_text : Tables → List ℕ
sessions_text t = flat_map (λ s. session_line (name_of t.accounts s.user) s) (sessions t)

abbrev pub tokens_text : Tables → List ℕ
tokens_text t = flat_map (λ k. token_line (name_of t.accounts k.user) k) (tokens t)

abbrev pub report_text : Tables → Report → List ℕ
report_text t reports.Users = users_text t
report_text t reports.Sessions = sessions_text t
report_text t reports.Tokens = tokens_text t
