-- What the texts mean.
use Rattle.std.proofs.Common.{◌≡◌, Ok, refl, List, [], ◌∷◌, ℕ, Some, codes, true, false}
use Rattle.sqlite.specs.declared.types.Value.TheVariants.{Null}
use Rattle.sqlite.specs.Term.{Term, lit, col, op2}
use Rattle.sqlite_sql.specs.declared.ops.BinaryOp.TheVariants.{Compare}
use Rattle.sqlite_sql.specs.declared.ops.CompareOp.TheVariants.{Eq}
use Rattle.sqlite.specs.Source.TheVariants.{Values}
use Rattle.sqlite.specs.Compile.{table_defined_by}
use Rattle.sqlite.specs.Listing.{understood, reads_listing}
use Rattle.sqlite.specs.Command.TheVariants.{InsertOr, Delete, Select, CreateTable}
use Rattle.sqlite_schema.specs.declared.command.Conflict.TheVariants.{Abort}
use Rattle.sqlite_schema.specs.declared.command.Upsert.{Upsert}
use Rattle.sqlite_schema.specs.declared.program.Program.{Program}
use Rattle.sqlite.specs.Command.{Command}
use Rattle.sqlite.specs.Collation.TheVariants.{Binary}
use Rattle.sqlite_tied.specs.Compute.{everything}
use Rattle.sqlite.proofs.Callers.{IsPlain, command_of, statement_of}
use Rattle.sql_base.specs.Schema.{session_text, token_text, session, token, schema, schema_3, schema_4}
use Rattle.sql_sessions.specs.Texts.{put_session_text, drop_session_text, load_session_text, put_token_text, drop_token_text, load_token_text}
use Rattle.sqlite_typing.specs.Types.{accepts_program}
use Rattle.sql_base.proofs.ListingLemmas.{load_of}
use Rattle.sql_base.proofs.QueryLemmas.{one_query}
use Rattle.sql_base.proofs.RefusalLemmas.{IsWhole}

-- ---- any table whose key is the text in its first column

abbrev pub equals : Term → Term → List Term
equals a b = op2 (Compare Eq Binary) a b ∷ []

-- the row whose rowid stands at a place of the parameters is rewritten
abbrev pub update_of : ℕ → ℕ → List Term → Program
update_of tree place values = record { lets = []; body = one_query tree (equals (col 1 0) (col 0 place)) (col 1 0 ∷ col 1 0 ∷ col 1 1 ∷ values) }

abbrev pub upserts_of : ℕ → ℕ → List Term → List Upsert
upserts_of tree place values = record { target = Some (1 ∷ []); update = Some (update_of tree place values) } ∷ []

abbrev pub drop_of : ℕ → Program
drop_of tree = record { lets = []; body = one_query tree (equals (col 1 1) (col 0 0)) (col 1 0 ∷ []) }

-- ---- sessions

abbrev pub put_session_command : Command
put_session_command =
    InsertOr 3 Abort (Values (lit Null ∷ col 0 0 ∷ col 0 1 ∷ col 0 2 ∷ col 0 3 ∷ col 0 4 ∷ col 0 5 ∷ col 0 6 ∷ []) 8)
    (upserts_of 5 7 (col 0 10 ∷ col 0 11 ∷ col 0 12 ∷ col 0 13 ∷ col 0 14 ∷ col 0 15 ∷ []))

abbrev pub drop_session_command : Command
drop_session_command = Delete 3 (drop_of 5)

abbrev pub load_session_command : Command
load_session_command =
    Select (load_of 5 (col 1 1) (col 1 2 ∷ col 1 3 ∷ col 1 4 ∷ col 1 5 ∷ col 1 6 ∷ col 1 7 ∷ col 1 0 ∷ []))
    (codes "id" ∷ codes "user" ∷ codes "opened" ∷ codes "seen" ∷ codes "idle" ∷ codes "max" ∷ codes "levels" ∷ codes "rowid" ∷ [])

pub create_session_is : (command_of (understood schema_3 session_text) ≡ CreateTable) × (statement_of session_text (understood schema_3 session_text) ≡ session_text) × (table_defined_by session_text ≡ Ok session)
unfolding understood everything
create_session_is = (refl, refl, refl)

pub create_session_plain : IsPlain (understood schema_3 session_text)
unfolding understood everything
create_session_plain = (refl, refl)

pub put_session_is : command_of (understood schema put_session_text) ≡ put_session_command
unfolding understood everything
put_session_is = refl

pub drop_session_is : command_of (understood schema drop_session_text) ≡ drop_session_command
unfolding understood everything
drop_session_is = refl

pub load_session_is : (command_of (understood schema load_session_text) ≡ load_session_command) × (reads_listing schema load_session_text ≡ false)
unfolding understood everything
load_session_is = (refl, refl)

pub put_session_plain : IsPlain (understood schema put_session_text)
unfolding understood everything
put_session_plain = (refl, refl)

pub drop_session_plain : IsPlain (understood schema drop_session_text)
unfolding understood everything
drop_session_plain = (refl, refl)

pub load_session_plain : IsPlain (understood schema load_session_text)
unfolding understood everything
load_session_plain = (refl, refl)

pub load_session_whole : IsWhole load_session_text (understood schema load_session_text)
unfolding understood everything
load_session_whole = (refl, refl)

pub load_session_accepts : accepts_program schema [] (load_of 5 (col 1 1) (col 1 2 ∷ col 1 3 ∷ col 1 4 ∷ col 1 5 ∷ col 1 6 ∷ col 1 7 ∷ col 1 0 ∷ [])).body [] ≡ true
load_session_accepts = refl

-- ---- tokens

abbrev pub put_token_command : Command
put_token_command =
    InsertOr 4 Abort (Values (lit Null ∷ col 0 0 ∷ col 0 1 ∷ col 0 2 ∷ col 0 3 ∷ col 0 4 ∷ []) 6)
    (upserts_of 7 5 (col 0 8 ∷ col 0 9 ∷ col 0 10 ∷ col 0 11 ∷ []))

abbrev pub drop_token_command : Command
drop_token_command = Delete 4 (drop_of 7)

abbrev pub load_token_command : Command
load_token_command =
    Select (load_of 7 (col 1 1) (col 1 2 ∷ col 1 3 ∷ col 1 4 ∷ col 1 5 ∷ col 1 0 ∷ []))
    (codes "key" ∷ codes "user" ∷ codes "kind" ∷ codes "expiry" ∷ codes "spent" ∷ codes "rowid" ∷ [])

pub create_token_is : (command_of (understood schema_4 token_text) ≡ CreateTable) × (statement_of token_text (understood schema_4 token_text) ≡ token_text) × (table_defined_by token_text ≡ Ok token)
unfolding understood everything
create_token_is = (refl, refl, refl)

pub create_token_plain : IsPlain (understood schema_4 token_text)
unfolding understood everything
create_token_plain = (refl, refl)

pub put_token_is : command_of (understood schema put_token_text) ≡ put_token_command
unfolding understood everything
put_token_is = refl

pub drop_token_is : command_of (understood schema drop_token_text) ≡ drop_token_command
unfolding understood everything
drop_token_is = refl

pub load_token_is : (command_of (understood schema load_token_text) ≡ load_token_command) × (reads_listing schema load_token_text ≡ false)
unfolding understood everything
load_token_is = (refl, refl)

pub put_token_plain : IsPlain (understood schema put_token_text)
unfolding understood everything
put_token_plain = (refl, refl)

pub drop_token_plain : IsPlain (understood schema drop_token_text)
unfolding understood everything
drop_token_plain = (refl, refl)

pub load_token_plain : IsPlain (understood schema load_token_text)
unfolding understood everything
load_token_plain = (refl, refl)

pub load_token_whole : IsWhole load_token_text (understood schema load_token_text)
unfolding understood everything
load_token_whole = (refl, refl)

pub load_token_accepts : accepts_program schema [] (load_of 7 (col 1 1) (col 1 2 ∷ col 1 3 ∷ col 1 4 ∷ col 1 5 ∷ col 1 0 ∷ [])).body [] ≡ true
load_token_accepts = refl
