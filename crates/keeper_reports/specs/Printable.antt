-- Reports of printable texts.
use Rattle.std.specs.Prelude.{ℕ, ◌==◌, ◌&&◌, ◌||◌, Bool, nat_le, List, length}
use Rattle.std.specs.List.{list_all}
use Rattle.keeper_rows.specs.declared.rows.AccountRow.{AccountRow}
use Rattle.keeper_rows.specs.declared.rows.SessionRow.{SessionRow}
use Rattle.keeper_rows.specs.declared.rows.TokenRow.{TokenRow}
use Rattle.keeper_rows.specs.declared.tables.Tables.{Tables}
use Rattle.keeper_reports.specs.declared.report.Report.{Report}
use Rattle.keeper_reports.specs.declared.report.Report.TheVariants as reports

-- from the space to `~`
abbrev pub is_printable : ℕ → Bool
is_printable b = nat_le 32 b && nat_le b 126

abbrev pub is_newline : ℕ → Bool
is_newline b = b == 10

abbrev pub is_printable_account : AccountRow → Bool
is_printable_account a = list_all is_printable a.name && list_all is_printable a.actions

abbrev pub is_printable_session : SessionRow → Bool
is_printable_session s = list_all is_printable s.id && list_all is_printable s.levels

abbrev pub is_printable_token : TokenRow → Bool
is_printable_token k = list_all is_printable k.key && list_all is_printable k.kind

-- the texts that reports tell
abbrev pub are_printable : Tables → Bool
are_printable t =
    list_all is_printable_account t.accounts && list_all is_printable_session t.sessions
    && list_all is_printable_token t.tokens

-- how many rows a report is about
abbrev pub row_count : Tables → Report → ℕ
row_count t reports.Users = length t.accounts
row_count t reports.Sessions = length t.sessions
row_count t reports.Tokens = length t.tokens
