-- What is true isn't needed.
use Rattle.std.proofs.Common.{◌≡◌, ℕ, Bool, true, false, not, ◌&&◌, List, [], ◌∷◌, map, refl, sym, subst}
use Rattle.std.specs.Prelude.{if◌then◌else◌}
use Rattle.std.specs.List.{All}
use Rattle.std.proofs.lemmas.List.Elements.{All-nil, All-cons, All-append}
use Rattle.flow_tree.specs.declared.exec.Exec.{Exec}
use Rattle.flow_tree.specs.Flow.{has, judged, Judged, verdicts, holds_over, some_acts, first_needs, offered_needs, needs_over, flow_needs}
use Rattle.flow_tree.proofs.Judging.{judged_leaf, judged_test, judged_flow}
use Rattle.hall_laws.proofs.TreeInduction.{Each, each_of, exec_induction}

module _ (t : List (List ℕ)) where
  -- the id isn't true
  abbrev pub IsLacking : List ℕ → Type 0
  IsLacking id = has t id ≡ false

  -- all that it needs isn't true
  abbrev IsSparing : Judged → Type 0
  IsSparing j = All IsLacking j.needs

  abbrev AreSparing : List Judged → Type 0
  AreSparing [] = Unit {0}
  AreSparing (j ∷ js) = IsSparing j × AreSparing js

  -- ---- what a flow needs is needed in it

  either_spares : (b : Bool) (one other : List (List ℕ)) → All IsLacking one → All IsLacking other → All IsLacking (if b then one else other)
  either_spares true one other h k = h
  either_spares false one other h k = k

  first_spares : (js : List Judged) → AreSparing js → All IsLacking (first_needs js)
  first_spares [] all = All-nil IsLacking
  first_spares (j ∷ js) all = either_spares (j.verdict.acts && not j.verdict.holds) j.needs (first_needs js) all.0 (first_spares js all.1)

  offered_spares : (js : List Judged) → AreSparing js → All IsLacking (offered_needs js)
  offered_spares [] all = All-nil IsLacking
  offered_spares (j ∷ js) all =
      All-append IsLacking (if j.verdict.offers then j.needs else []) (offered_needs js)
      (either_spares j.verdict.offers j.needs [] all.0 (All-nil IsLacking)) (offered_spares js all.1)

  flow_spares : (js : List Judged) → AreSparing js → All IsLacking (needs_over js)
  flow_spares js all =
      either_spares (holds_over (verdicts js)) [] _ (All-nil IsLacking)
      (either_spares (some_acts (verdicts js)) (first_needs js) (offered_needs js) (first_spares js all) (offered_spares js all))

  -- ---- each execution

  leaf_spares : (id : List ℕ) (b : Bool) → has t id ≡ b → All IsLacking (if b then [] else id ∷ [])
  leaf_spares id true h = All-nil IsLacking
  leaf_spares id false h = All-cons IsLacking id [] h (All-nil IsLacking)

  abbrev Spares : Exec → Type 0
  Spares e = IsSparing (judged t e)

  each_spares : (es : List Exec) → Each Spares es → AreSparing (map (judged t) es)
  each_spares [] all = tt
  each_spares (e ∷ es) all = (all.0, each_spares es all.1)

  exec_spares : (e : Exec) → Spares e
  exec_spares =
      exec_induction Spares
      (λ e kind is. subst IsSparing (sym (judged_leaf t e kind is)) (leaf_spares e.id (has t e.id) refl))
      (λ e c is. subst IsSparing (sym (judged_test t e c is)) (All-nil IsLacking))
      (λ e es is all. subst IsSparing (sym (judged_flow t e es is)) (flow_spares (map (judged t) es) (each_spares es all)))

  -- what a flow needs isn't true
  pub needs_spare : (es : List Exec) → All IsLacking (flow_needs t es)
  needs_spare es = flow_spares (map (judged t) es) (each_spares es (each_of Spares exec_spares es))
