-- Which accepted posts count behind more facts: those before that the new facts leave, and those among the new.
use Rattle.std.proofs.Common.{◌≡◌, ℕ, Bool, true, false, not, ◌&&◌, ◌||◌, List, [], ◌∷◌, ◌++◌, refl, ap, sym, ◌∙◌}
use Rattle.std.specs.Prelude.{Option}
use Rattle.std.specs.List.{list_any}
use Rattle.std.proofs.lemmas.List.Folds.{list_any-append}
use Rattle.login_base.specs.declared.id.TabKey.{TabKey}
use Rattle.login_base.specs.declared.id.UserId.{UserId}
use Rattle.conditions.specs.declared.secret_kind.SecretKind.{SecretKind}
use Rattle.facts.specs.declared.fact.Fact.{Fact}
use Rattle.facts.specs.Evidence.{voids}
use Rattle.hall_questions.specs.Evidence.{is_passed_on, has_evidence_on}

-- a post that counts, or others behind it, with voiding facts behind both and evidence among those
joined : (post voided others later more : Bool)
    → ((post && not (voided || later)) || ((others && not later) || more)) ≡ ((((post && not voided) || others) && not later) || more)
joined false voided others later more = refl
joined true true others later more = refl
joined true false true true more = refl
joined true false false true more = refl
joined true false others false more = refl

module _ (tab : TabKey) (user : UserId) (id : List ℕ) (kind : Option SecretKind) where
  -- what counts at the end of a list that is joined of two
  pub evidence_joined : (front more : List Fact)
      → has_evidence_on tab user id kind (front ++ more)
      ≡ ((has_evidence_on tab user id kind front && not (list_any (voids tab user kind) more)) || has_evidence_on tab user id kind more)
  unfolding has_evidence_on
  evidence_joined [] more = refl
  evidence_joined (fact ∷ front) more =
      let post = is_passed_on tab user id kind fact in
      let later = list_any (voids tab user kind) more in
      ap (λ (b : Bool). (post && not b) || has_evidence_on tab user id kind (front ++ more)) (list_any-append (voids tab user kind) front more)
      ∙ ap (λ (b : Bool). (post && not (list_any (voids tab user kind) front || later)) || b) (evidence_joined front more)
      ∙ joined post (list_any (voids tab user kind) front) (has_evidence_on tab user id kind front) later (has_evidence_on tab user id kind more)

  pub evidence_grows : (one other more : List Fact)
      → has_evidence_on tab user id kind one ≡ has_evidence_on tab user id kind other
      → has_evidence_on tab user id kind (one ++ more) ≡ has_evidence_on tab user id kind (other ++ more)
  evidence_grows one other more h =
      evidence_joined one more
      ∙ ap (λ (b : Bool). (b && not (list_any (voids tab user kind) more)) || has_evidence_on tab user id kind more) h
      ∙ sym (evidence_joined other more)
