-- What is known of all tables once they were loaded.
use Rattle.std.specs.Prelude.{◌≡◌, map, None}
use Rattle.std.specs.List.{AllByRecursion}
use Rattle.keeper_rows.specs.declared.tables.Tables.{Tables}
use Rattle.sqlite.specs.Tree.{Trees}
use Rattle.sql_base.specs.Ready.{AreNumbered, IsNatural}
use Rattle.sql_base.specs.Told.{realm_of, mark_of, tables_in}
use Rattle.sql_loads.specs.declared.marks.Marks.{Marks}
use Rattle.sql_loads.specs.declared.realms.Realms.{Realms}
use Rattle.sql_loads.specs.declared.tables.Users.{Users}
use Rattle.sql_loads.specs.declared.tables.Uses.{Uses}
use Rattle.sql_loads.specs.Loads.{AreSessions, AreTokens, by_rowid, first_failing, has_mark_key, HasMarkKey, tells_realm, RealmsFit, AccountsFit, SecretsFit, SessionsFit, TokensFit, MarksFit}

-- the tables, with realms and marks in the order of their rowids
abbrev pub tables_stored : Trees → Tables
tables_stored db = record (tables_in db) { realms = map realm_of (by_rowid (db 0)); marks = map mark_of (by_rowid (db 9)) }

pub record AreRealms (db : Trees) (realms : Realms) : Type 0 where
  pub rows : realms.rows ≡ (tables_stored db).realms
  pub untold : realms.untold ≡ first_failing tells_realm (by_rowid (db 0))
  pub told : AllByRecursion IsNatural (db 0) → realms.rows ≡ (tables_in db).realms
  pub natural : realms.untold ≡ None → AllByRecursion IsNatural (db 0)
  pub numbered : AreNumbered (db 0)

pub record AreMarks (db : Trees) (marks : Marks) : Type 0 where
  pub rows : marks.rows ≡ (tables_stored db).marks
  pub unkeyed : marks.unkeyed ≡ first_failing has_mark_key (by_rowid (db 9))
  pub told : AllByRecursion HasMarkKey (db 9) → marks.rows ≡ (tables_in db).marks
  pub keyed : marks.unkeyed ≡ None → AllByRecursion HasMarkKey (db 9)
  pub numbered : AreNumbered (db 9)

pub record AreUsers (db : Trees) (users : Users) : Type 0 where
  pub realms : AreRealms db users.realms
  pub accounts : users.accounts ≡ (tables_in db).accounts
  pub accounts_numbered : AreNumbered (db 1)
  pub secrets : users.secrets ≡ (tables_in db).secrets
  pub secrets_numbered : AreNumbered (db 3)

pub record AreUses (db : Trees) (uses : Uses) : Type 0 where
  pub sessions : uses.sessions ≡ (tables_in db).sessions
  pub sessions_kept : AreSessions (db 5)
  pub tokens : uses.tokens ≡ (tables_in db).tokens
  pub tokens_kept : AreTokens (db 7)
  pub marks : AreMarks db uses.marks

pub record UsersFit (db : Trees) : Type 0 where
  pub realms : RealmsFit (db 0)
  pub accounts : AccountsFit (db 1)
  pub secrets : SecretsFit (db 3)

pub record UsesFit (db : Trees) : Type 0 where
  pub sessions : SessionsFit (db 5)
  pub tokens : TokensFit (db 7)
  pub marks : MarksFit (db 9)

-- the rows of all tables can be loaded
pub record TablesFit (db : Trees) : Type 0 where
  pub users : UsersFit db
  pub uses : UsesFit db
