-- Spent steps, fact by fact.
use Rattle.std.proofs.Common.{◌≡◌, ℕ, ◌+◌, false, List, ◌++◌, ◌∷◌, [], take, Option, Some, None, option_map, slice_get, append-nil, refl, ap, sym, ◌∙◌}
use Rattle.std.specs.List.{flat_map}
use Rattle.std.proofs.lemmas.List.{flat_map_more, take_more}
use Rattle.std.proofs.lemmas.Option.{get_or_from_slice_get, slice_get_within, same_Some}
use Rattle.facts.specs.declared.fact.Fact.{Fact}
use Rattle.facts.specs.declared.subject.Subject.{Subject}
use Rattle.facts.specs.Spent.{step_spent}
use Rattle.facts.specs.Subjects.{subject_of, is_of_secret}
use Rattle.fact_scans.specs.About.{of_steps}
use Rattle.fact_walks.proofs.Unread.{unread}

one_more : (facts : List Fact) (i : ℕ) (fact : Fact) → slice_get facts i ≡ Some fact → take (i + 1) facts ≡ take i facts ++ fact ∷ []
one_more facts i fact h = take_more facts i fact (slice_get_within facts i fact h) ∙ ap (λ x. take i facts ++ x ∷ []) (get_or_from_slice_get facts i fact fact h)

module _ (serial : ℕ) (front : List ℕ) (facts : List Fact) (i : ℕ) where
  pub steps_more : (spent new : List ℕ) (fact : Fact) → slice_get facts i ≡ Some fact → spent ≡ front ++ flat_map (step_spent serial) (take i facts)
      → new ≡ spent ++ step_spent serial fact → new ≡ front ++ flat_map (step_spent serial) (take (i + 1) facts)
  steps_more spent new fact at h k =
      k ∙ ap (λ s. s ++ step_spent serial fact) h ∙ flat_map_more (step_spent serial) front (take i facts) fact
      ∙ ap (λ fs. front ++ flat_map (step_spent serial) fs) (sym (one_more facts i fact at))

  steps_from : (spent new : List ℕ) (o : Option Fact) → slice_get facts i ≡ o → spent ≡ front ++ flat_map (step_spent serial) (take i facts)
      → option_map (λ fact. spent ++ step_spent serial fact) o ≡ Some new → new ≡ front ++ flat_map (step_spent serial) (take (i + 1) facts)
  steps_from spent new None at h k = absurd cc
  steps_from spent new (Some fact) at h k = steps_more spent new fact at h (sym (same_Some (spent ++ step_spent serial fact) new k))

  pub steps_at : (spent new : List ℕ) → spent ≡ front ++ flat_map (step_spent serial) (take i facts)
      → option_map (λ fact. spent ++ step_spent serial fact) (slice_get facts i) ≡ Some new → new ≡ front ++ flat_map (step_spent serial) (take (i + 1) facts)
  steps_at spent new h k = steps_from spent new (slice_get facts i) refl h k

-- a fact that isn't about the secret spends none of its steps
pub no_step_at : (serial : ℕ) (spent : List ℕ) (facts : List Fact) (i : ℕ) (subject : Subject) → option_map subject_of (slice_get facts i) ≡ Some subject → is_of_secret serial subject ≡ false
    → option_map (λ fact. spent ++ step_spent serial fact) (slice_get facts i) ≡ Some spent
no_step_at serial spent facts i subject at other =
    unread (is_of_secret serial) (λ fact. spent ++ step_spent serial fact) spent
    (λ fact h. ap (λ s. spent ++ s) (of_steps serial fact h) ∙ append-nil spent) facts i subject at other
