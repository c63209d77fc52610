-- What making a table does.
use Rattle.std.proofs.Common.{◌≡◌, ℕ, false, List, [], None, Ok, Err, Result, OnOk, sym, ap, subst, ◌∙◌}
use Rattle.sqlite.specs.Change.{created, next_tree, KeepsRows}
use Rattle.sqlite.specs.Command.TheVariants.{CreateTable}
use Rattle.sqlite.specs.Compile.{table_defined_by}
use Rattle.sqlite.specs.Does.{Tally, lacks_sequence}
use Rattle.sqlite.specs.Effect.{Database}
use Rattle.sqlite.specs.Listing.{understood}
use Rattle.sqlite.specs.Schema.{Schema}
use Rattle.sqlite.specs.State.{State, Writes, ExecutesInside}
use Rattle.sqlite.specs.Table.{Table}
use Rattle.sqlite.specs.Tree.{Trees}
use Rattle.sqlite.specs.declared.error.Error.{Error}
use Rattle.sqlite.proofs.Callers.{IsPlain, command_of, statement_of, runs_as}
use Rattle.sql_base.proofs.StateLemmas.{went, same_value}
use Rattle.sql_base.specs.Steps.{IsBegun, IsMade}

pub creates : (before : Schema) (table : Table) (text : List ℕ) → (command_of (understood before text) ≡ CreateTable) × (statement_of text (understood before text) ≡ text) × (table_defined_by text ≡ Ok table)
    → IsPlain (understood before text) → lacks_sequence (created before table) ≡ false → (old new : State) (r : Result ℕ Error) → IsBegun before old → ExecutesInside 0 text [] old new r
    → OnOk r (IsMade before (created before table) old new)
creates before table text is plain lacks old new (Err e) begun h = tt
creates before table text is plain lacks old new (Ok count) begun h =
    let w = subst (λ t. Writes old new None CreateTable t [] count) is.1 (runs_as text [] old new before begun.schema_is CreateTable is.0 plain count h.0) in
    let all = went w.changed in
    let first = went all.1 in
    let made = first.1 in
    let both : Ok made.table ≡ Ok table = sym made.defined ∙ is.2 in
    let same : made.table ≡ table = cc in
    let schema : first.0.schema ≡ created before table = made.is ∙ ap (λ s. created s made.table) begun.schema_is ∙ ap (created before) same in
    let none : lacks_sequence first.0.schema ≡ false = ap lacks_sequence schema ∙ lacks in
    let now : new.now ≡ first.0 = ap (λ (p : Tally × Database). p.1) (same_value all.2) ∙ same_value (rw none at first.2) in
    let trees : new.now.trees ≡ first.0.trees = ap (λ (d : Database). d.trees) now in
    record {
      begun = record { schema_is = ap (λ (d : Database). d.schema) now ∙ schema; inside = h.1.mode };
      is_open = h.1.is_open;
      sound = w.sound;
      empty = ap (λ (t : Trees). t (next_tree before)) trees ∙ subst (λ s. first.0.trees (next_tree s) ≡ []) begun.schema_is made.empty;
      others = subst (λ (t : Trees). KeepsRows before.tables old.now.trees t) (sym trees) (subst (λ (s : Schema). KeepsRows s.tables old.now.trees first.0.trees) begun.schema_is made.others);
      committed = h.1.committed_is;
    }
