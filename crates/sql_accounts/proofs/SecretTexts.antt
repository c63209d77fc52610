-- What the texts on secrets mean.
use Rattle.std.proofs.Common.{◌≡◌, Ok, refl, List, [], ◌∷◌, Some, codes, true, false, ℕ}
use Rattle.sqlite.specs.declared.types.Value.TheVariants.{Null}
use Rattle.sqlite.specs.Collation.TheVariants.{Binary}
use Rattle.sqlite.specs.Table.{Table}
use Rattle.sqlite.specs.Term.{Term, lit, col, op2}
use Rattle.sqlite_sql.specs.declared.ops.BinaryOp.TheVariants.{Compare}
use Rattle.sqlite_sql.specs.declared.ops.CompareOp.TheVariants.{Eq}
use Rattle.sqlite.specs.Source.TheVariants.{Values}
use Rattle.sqlite.specs.Change.{created}
use Rattle.sqlite.specs.Compile.{table_defined_by}
use Rattle.sqlite.specs.Does.{lacks_sequence}
use Rattle.sqlite.specs.Listing.{understood, reads_listing}
use Rattle.sqlite.specs.Command.{Command}
use Rattle.sqlite.specs.Command.TheVariants.{InsertOr, Delete, Select, CreateTable}
use Rattle.sqlite_schema.specs.declared.command.Conflict.TheVariants.{Abort}
use Rattle.sqlite_tied.specs.Compute.{everything}
use Rattle.sqlite.proofs.Callers.{IsPlain, command_of, statement_of}
use Rattle.sql_base.specs.Schema.{secret, secret_text, schema_2, schema}
use Rattle.sqlite_typing.specs.Types.{accepts_program}
use Rattle.sql_base.proofs.QueryLemmas.{one_query, all_query}
use Rattle.sql_base.proofs.RefusalLemmas.{IsWhole}
use Rattle.sql_accounts.proofs.NumberLemmas.{rowid_test}

abbrev pub put_text : List ℕ
put_text =
    codes "INSERT INTO secret (serial, user, kind, body, spent) VALUES (?1, ?2, ?3, ?4, ?5) ON CONFLICT (serial) DO UPDATE SET user = excluded.user, kind = excluded.kind, body = excluded.body, spent = excluded.spent"

abbrev pub drop_text : List ℕ
drop_text = codes "DELETE FROM secret WHERE serial = ?1"

abbrev pub load_text : List ℕ
load_text = codes "SELECT serial, user, kind, body, spent FROM secret ORDER BY serial"

-- as the schema has it
abbrev pub secret_table : Table
secret_table = record secret { tree = 3 }

abbrev pub put_terms : List Term
put_terms = col 0 0 ∷ lit Null ∷ col 0 1 ∷ col 0 2 ∷ col 0 3 ∷ col 0 4 ∷ []

abbrev pub put_test : List Term
put_test = op2 (Compare Eq Binary) (col 1 0) (col 0 5) ∷ []

abbrev pub put_wanted : List Term
put_wanted = col 1 0 ∷ col 1 0 ∷ lit Null ∷ col 0 8 ∷ col 0 9 ∷ col 0 10 ∷ col 0 11 ∷ []

abbrev pub put_command : Command
put_command =
    InsertOr 2 Abort (Values put_terms 6) (record { target = Some (0 ∷ []); update = Some (record { lets = []; body = one_query 3 put_test put_wanted }) } ∷ [])

abbrev pub drop_command : Command
drop_command = Delete 2 (record { lets = []; body = one_query 3 rowid_test (col 1 0 ∷ []) })

abbrev pub load_terms : List Term
load_terms = col 1 0 ∷ col 1 2 ∷ col 1 3 ∷ col 1 4 ∷ col 1 5 ∷ []

abbrev pub load_command : Command
load_command =
    Select (record { lets = []; body = all_query 3 (col 1 0) load_terms })
    (codes "serial" ∷ codes "user" ∷ codes "kind" ∷ codes "body" ∷ codes "spent" ∷ [])

pub create_is : (command_of (understood schema_2 secret_text) ≡ CreateTable) × (statement_of secret_text (understood schema_2 secret_text) ≡ secret_text) × (table_defined_by secret_text ≡ Ok secret)
unfolding understood everything
create_is = (refl, refl, refl)

pub create_plain : IsPlain (understood schema_2 secret_text)
unfolding understood everything
create_plain = (refl, refl)

pub create_lacks : lacks_sequence (created schema_2 secret) ≡ false
create_lacks = refl

pub put_is : command_of (understood schema put_text) ≡ put_command
unfolding understood everything
put_is = refl

pub drop_is : command_of (understood schema drop_text) ≡ drop_command
unfolding understood everything
drop_is = refl

pub load_is : (command_of (understood schema load_text) ≡ load_command) × (reads_listing schema load_text ≡ false)
unfolding understood everything
load_is = (refl, refl)

pub put_plain : IsPlain (understood schema put_text)
unfolding understood everything
put_plain = (refl, refl)

pub drop_plain : IsPlain (understood schema drop_text)
unfolding understood everything
drop_plain = (refl, refl)

pub load_plain : IsPlain (understood schema load_text)
unfolding understood everything
load_plain = (refl, refl)

pub load_whole : IsWhole load_text (understood schema load_text)
unfolding understood everything
load_whole = (refl, refl)

pub load_accepts : accepts_program schema [] (all_query 3 (col 1 0) load_terms) [] ≡ true
load_accepts = refl
