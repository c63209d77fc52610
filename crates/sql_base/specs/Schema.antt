-- The tables of the database, and the texts that make them, in order.
use Rattle.std.specs.Prelude.{ℕ, true, false, List, [], ◌∷◌, Option, None, Some, codes}
use Rattle.sqlite.specs.Collation.TheVariants.{Binary}
use Rattle.sqlite.specs.declared.types.Value.TheVariants.{Null}
use Rattle.sqlite.specs.Table.{Table}
use Rattle.sqlite.specs.Schema.{Schema}
use Rattle.sqlite.specs.Kind.{Kind}
use Rattle.sqlite.specs.Kind.TheVariants.{Integer, Text, Blob}
use Rattle.sqlite.specs.Change.{created}
use Rattle.sqlite_schema.specs.declared.schema.Column.{Column}
use Rattle.sqlite_value.specs.declared.keys.Order.{Order}

-- the column that the rowid stands for
abbrev pub key_column : List ℕ → Column
key_column name = record { name = name; kind = Integer; is_strict = true; not_null = false; default = Null; collation = Binary }

-- a column that holds no NULL
abbrev pub full_column : List ℕ → Kind → Column
full_column name kind = record { name = name; kind = kind; is_strict = true; not_null = true; default = Null; collation = Binary }

abbrev pub table_of : List ℕ → List Column → Option ℕ → List ℕ → List (List ℕ) → List Order → Table
table_of name columns key primary uniques orders = record {
  name = name;
  tree = 0;
  columns = columns;
  key = key;
  primary = primary;
  uniques = uniques;
  orders = orders;
  checks = [];
  references = [];
  computed = [];
  stamps = record { places = []; terms = []; formats = [] };
  is_counted = false;
}

abbrev pub realm_text : List ℕ
realm_text = codes "CREATE TABLE realm (version INTEGER PRIMARY KEY, text TEXT NOT NULL) STRICT"

abbrev pub account_text : List ℕ
account_text = codes "CREATE TABLE account (id INTEGER PRIMARY KEY, name TEXT NOT NULL UNIQUE, roles TEXT NOT NULL, enabled INTEGER NOT NULL, count INTEGER NOT NULL, last INTEGER NOT NULL, until INTEGER NOT NULL, permanent INTEGER NOT NULL, actions TEXT NOT NULL) STRICT"

abbrev pub secret_text : List ℕ
secret_text = codes "CREATE TABLE secret (serial INTEGER PRIMARY KEY, user INTEGER NOT NULL, kind TEXT NOT NULL, body BLOB NOT NULL, spent TEXT NOT NULL, UNIQUE (user, kind)) STRICT"

abbrev pub session_text : List ℕ
session_text = codes "CREATE TABLE session (id TEXT NOT NULL PRIMARY KEY, user INTEGER NOT NULL, opened INTEGER NOT NULL, seen INTEGER NOT NULL, idle INTEGER NOT NULL, max INTEGER NOT NULL, levels TEXT NOT NULL) STRICT"

abbrev pub token_text : List ℕ
token_text = codes "CREATE TABLE token (key TEXT NOT NULL PRIMARY KEY, user INTEGER NOT NULL, kind TEXT NOT NULL, expiry INTEGER NOT NULL, spent INTEGER NOT NULL) STRICT"

abbrev pub mark_text : List ℕ
mark_text = codes "CREATE TABLE mark (one INTEGER PRIMARY KEY, schema INTEGER NOT NULL, serial INTEGER NOT NULL, moment INTEGER NOT NULL) STRICT"

abbrev pub realm : Table
realm = table_of (codes "realm") (key_column (codes "version") ∷ full_column (codes "text") Text ∷ []) (Some 0) (0 ∷ []) [] []

abbrev pub account : Table
account = table_of (codes "account") (key_column (codes "id") ∷ full_column (codes "name") Text ∷ full_column (codes "roles") Text ∷ full_column (codes "enabled") Integer ∷ full_column (codes "count") Integer ∷ full_column (codes "last") Integer ∷ full_column (codes "until") Integer ∷ full_column (codes "permanent") Integer ∷ full_column (codes "actions") Text ∷ []) (Some 0) (0 ∷ []) ((2 ∷ []) ∷ []) (record { digits = 0 } ∷ [])

abbrev pub secret : Table
secret = table_of (codes "secret") (key_column (codes "serial") ∷ full_column (codes "user") Integer ∷ full_column (codes "kind") Text ∷ full_column (codes "body") Blob ∷ full_column (codes "spent") Text ∷ []) (Some 0) (0 ∷ []) ((2 ∷ 3 ∷ []) ∷ []) (record { digits = 0 } ∷ [])

abbrev pub session : Table
session = table_of (codes "session") (full_column (codes "id") Text ∷ full_column (codes "user") Integer ∷ full_column (codes "opened") Integer ∷ full_column (codes "seen") Integer ∷ full_column (codes "idle") Integer ∷ full_column (codes "max") Integer ∷ full_column (codes "levels") Text ∷ []) None (1 ∷ []) ((1 ∷ []) ∷ []) (record { digits = 0 } ∷ [])

abbrev pub token : Table
token = table_of (codes "token") (full_column (codes "key") Text ∷ full_column (codes "user") Integer ∷ full_column (codes "kind") Text ∷ full_column (codes "expiry") Integer ∷ full_column (codes "spent") Integer ∷ []) None (1 ∷ []) ((1 ∷ []) ∷ []) (record { digits = 0 } ∷ [])

abbrev pub mark : Table
mark = table_of (codes "mark") (key_column (codes "one") ∷ full_column (codes "schema") Integer ∷ full_column (codes "serial") Integer ∷ full_column (codes "moment") Integer ∷ []) (Some 0) (0 ∷ []) [] []

abbrev pub no_schema : Schema
no_schema = record { tables = []; indexes = []; views = [] }

-- with the first table, with the first two, and so on
abbrev pub schema_1 : Schema
schema_1 = created no_schema realm

abbrev pub schema_2 : Schema
schema_2 = created schema_1 account

abbrev pub schema_3 : Schema
schema_3 = created schema_2 secret

abbrev pub schema_4 : Schema
schema_4 = created schema_3 session

abbrev pub schema_5 : Schema
schema_5 = created schema_4 token

abbrev pub schema : Schema
schema = created schema_5 mark
