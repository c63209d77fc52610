-- What a commit does to the tables.
use Rattle.std.specs.Prelude.{ℕ, ℤ, List, [], fold}
use Rattle.std.specs.declared.cmp.Ordering.{Ordering}
use Rattle.std.specs.Cmp.Lexicographic.{slice_cmp}
use Rattle.std.specs.Ordering.{nat_cmp, int_cmp}
use Rattle.keeper_rows.specs.declared.change.Row.{Row}
use Rattle.keeper_rows.specs.declared.change.Row.TheVariants as rows
use Rattle.keeper_rows.specs.declared.change.RowKey.{RowKey}
use Rattle.keeper_rows.specs.declared.change.RowKey.TheVariants as keys
use Rattle.keeper_rows.specs.declared.change.Change.{Change}
use Rattle.keeper_rows.specs.declared.change.Change.TheVariants.{Put, Drop}
use Rattle.keeper_rows.specs.declared.rows.RealmRow.{RealmRow}
use Rattle.keeper_rows.specs.declared.rows.AccountRow.{AccountRow}
use Rattle.keeper_rows.specs.declared.rows.SecretRow.{SecretRow}
use Rattle.keeper_rows.specs.declared.rows.SessionRow.{SessionRow}
use Rattle.keeper_rows.specs.declared.rows.TokenRow.{TokenRow}
use Rattle.keeper_rows.specs.declared.rows.MarkRow.{MarkRow}
use Rattle.keeper_rows.specs.declared.tables.Tables.{Tables}
use Rattle.keeper_rows.specs.Keys.{put, dropped}

abbrev pub no_rows : Tables
no_rows = record { realms = []; accounts = []; secrets = []; sessions = []; tokens = []; marks = [] }

-- ---- keys and their orders

abbrev pub realm_key : RealmRow → ℕ
realm_key r = r.version

abbrev pub account_key : AccountRow → ℤ
account_key r = r.id

abbrev pub secret_key : SecretRow → ℤ
secret_key r = r.serial

abbrev pub session_key : SessionRow → List ℕ
session_key r = r.id

abbrev pub token_key : TokenRow → List ℕ
token_key r = r.key

-- all mark rows have one key
abbrev pub mark_key : MarkRow → ℕ
mark_key r = 1

-- texts in byte order
abbrev pub text_cmp : List ℕ → List ℕ → Ordering
text_cmp = slice_cmp nat_cmp

-- ---- changes

unfoldable pub put_row : Row → Tables → Tables
put_row (rows.Realm version realm) t =
    record t { realms = put nat_cmp realm_key (record { version = version; realm = realm }) t.realms }
put_row (rows.Account row) t = record t { accounts = put int_cmp account_key row t.accounts }
put_row (rows.Secret row) t = record t { secrets = put int_cmp secret_key row t.secrets }
put_row (rows.Session row) t = record t { sessions = put text_cmp session_key row t.sessions }
put_row (rows.Token row) t = record t { tokens = put text_cmp token_key row t.tokens }
put_row (rows.Mark row) t = record t { marks = put nat_cmp mark_key row t.marks }

unfoldable pub drop_row : RowKey → Tables → Tables
drop_row (keys.Realm version) t = record t { realms = dropped nat_cmp realm_key version t.realms }
drop_row (keys.Account id) t = record t { accounts = dropped int_cmp account_key id t.accounts }
drop_row (keys.Secret serial) t = record t { secrets = dropped int_cmp secret_key serial t.secrets }
drop_row (keys.Session id) t = record t { sessions = dropped text_cmp session_key id t.sessions }
drop_row (keys.Token key) t = record t { tokens = dropped text_cmp token_key key t.tokens }
drop_row keys.Mark t = record t { marks = dropped nat_cmp mark_key 1 t.marks }

abbrev pub changed : Tables → Change → Tables
changed t (Put row) = put_row row t
changed t (Drop key) = drop_row key t

-- the tables after changes, in order
abbrev pub applied : List Change → Tables → Tables
applied changes t = fold changed t changes
