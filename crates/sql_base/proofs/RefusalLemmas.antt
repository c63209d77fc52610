-- Why a query of all rows is refused.
use Rattle.std.proofs.Common.{◌≡◌, ◌⊎◌, inl, inr, ℕ, true, false, List, [], ◌∷◌, length, Result, Ok, Err, IfErr, refl, sym, ap, subst, ◌∙◌, true≢false, append-nil, arith}
use Rattle.sqlite_trees.specs.declared.error.StoreError.{StoreError}
use Rattle.sqlite_trees.specs.declared.error.StoreError.TheVariants.{OutOfMemory, Io, Corrupt, Full, Broken, Unstorable}
use Rattle.sqlite_resolve.specs.declared.compiled.Compiled.{Compiled}
use Rattle.sqlite_resolve.specs.declared.error.CompileError.{CompileError}
use Rattle.sqlite_sql.proofs.QueryLemmas.{no_fold_overflows}
use Rattle.sqlite_typing.specs.Types.{accepts_program}
use Rattle.sqlite.specs.declared.error.Error.{Error}
use Rattle.sqlite.specs.Command.{Command}
use Rattle.sqlite.specs.Command.TheVariants.{Select}
use Rattle.sqlite.specs.Effect.{Database, RefusesQuery, RefusesToRead}
use Rattle.sqlite.specs.Listing.{understood, reads_listing, IsSourceOf}
use Rattle.sqlite.specs.Clock.{timed}
use Rattle.sqlite.specs.State.{State, store_error, HasCause, FailsToQuery, IsNoStatement, IsNotRun, IsTooLate}
use Rattle.sqlite.specs.Program.{overlay}
use Rattle.sqlite.specs.Term.{Term}
use Rattle.sqlite.proofs.Callers.{IsPlain, command_of}
use Rattle.sql_base.specs.declared.fault.Fault.TheVariants.{Failed}
use Rattle.sql_base.specs.Faults.{fault_of}
use Rattle.sql_base.specs.Schema.{schema}
use Rattle.sql_base.specs.Steps.{IsBegun, IsRefused}
use Rattle.sql_base.proofs.ListingLemmas.{load_of}

-- the text is one statement and has no parameters
abbrev pub IsWhole : List ℕ → Result Compiled CompileError → Type 0
IsWhole sql (Ok c) = (c.tail ≡ length sql) × (c.names ≡ [])
IsWhole sql (Err e) = ⊥

fails_by : (old new : State) (e : Error) → fault_of e ≡ Failed → (cause : StoreError) → e ≡ store_error cause → HasCause old new ⊥ cause → IsRefused old new
fails_by old new e failed OutOfMemory is cause = absurd (let k = sym (ap fault_of is) ∙ failed in cc)
fails_by old new e failed Io is cause = inl cause
fails_by old new e failed Corrupt is cause = inl cause
fails_by old new e failed Full is cause = inl cause
fails_by old new e failed Broken is cause = inr (inl cause)
fails_by old new e failed Unstorable is cause = absurd cause

module _ (tree : ℕ) (first : Term) (values : List Term) (sql : List ℕ) (names : List (List ℕ)) (is : command_of (understood schema sql) ≡ Select (load_of tree first values) names)
    (plain : IsPlain (understood schema sql)) (whole : IsWhole sql (understood schema sql)) (accepts : accepts_program schema [] (load_of tree first values).body [] ≡ true)
    (old new : State) (e : Error) (has : old.now.schema ≡ schema) (failed : fault_of e ≡ Failed) where
  known : (c : Compiled) → understood old.now.schema sql ≡ Ok c → understood schema sql ≡ Ok c
  known c found = sym (ap (λ s. understood s sql) has) ∙ found

  no_statement : IsNoStatement old sql [] e → ⊥
  no_statement (inl h) = let k = sym (ap command_of (sym (ap (λ s. understood s sql) has) ∙ h.1)) ∙ is in cc
  no_statement (inr h) =
      let here = known h.0 h.1 in
      let all = subst (IsWhole sql) here whole in
      elim h.2 [
        | inl more ↦ more.0 (omega (arith, all.0))
        | inr (inl given) ↦ given.0 (sym (ap length all.1))
        | inr (inr clock) ↦ clock.0 (subst IsPlain here plain).1
      ]

  not_read : (db : Database) → db.schema ≡ schema → RefusesQuery old.step_limit db (load_of tree first values) [] e → IsRefused old new
  not_read db same (inl kinds) = absurd (true≢false (sym (subst (λ s. accepts_program s [] (load_of tree first values).body [] ≡ true) (sym same) accepts) ∙ kinds.1))
  not_read db same (inr (inl over)) = elim over.1 [ inl none ↦ absurd none | inr fold ↦ absurd (no_fold_overflows (overlay db.trees []) (load_of tree first values).body.from ([] ∷ []) refl fold) ]
  not_read db same (inr (inr limit)) = inr (inr limit.1)

  pub refused : reads_listing schema sql ≡ false → IsBegun schema old → FailsToQuery sql [] old new e ⊎ IsTooLate sql [] old new e → IsRefused old new
  unfolding FailsToQuery IsNotRun
  refused unlisted begun (inl (inl (inl h))) = absurd (no_statement h.0)
  refused unlisted begun (inl (inl (inr h))) = fails_by old new e failed h.0 h.1 h.2
  refused unlisted begun (inl (inr h)) =
      let here = known h.0 h.1.is in
      let bare = subst IsPlain here plain in
      let it = rw (bare.0, bare.1, append-nil []) at h.2 in
      let db : it.0 ≡ old.now = subst (λ b. IsSourceOf b old.now it.0) (ap (λ s. reads_listing s sql) has ∙ unlisted) it.1 in
      let reads = subst (λ k. RefusesToRead old.step_limit k it.0 [] e) (sym (ap command_of here) ∙ is) it.2 in
      not_read it.0 (ap (λ (d : Database). d.schema) db ∙ has) reads
  refused unlisted begun (inr h) = absurd (let k = sym begun.inside ∙ h.3 in true≢false k)
