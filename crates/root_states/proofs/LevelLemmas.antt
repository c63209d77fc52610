-- Recorded levels, fact by fact.
use Rattle.std.proofs.Common.{◌≡◌, ℕ, ◌+◌, false, List, ◌++◌, ◌∷◌, [], take, Option, Some, None, option_map, slice_get, append-nil, refl, ap, sym, ◌∙◌}
use Rattle.std.specs.List.{flat_map}
use Rattle.std.proofs.lemmas.List.{flat_map_more, take_more}
use Rattle.std.proofs.lemmas.Option.{get_or_from_slice_get, slice_get_within, same_Some}
use Rattle.login_base.specs.declared.id.SessionId.{SessionId}
use Rattle.facts.specs.declared.fact.Fact.{Fact}
use Rattle.facts.specs.declared.subject.Subject.{Subject}
use Rattle.facts.specs.Levels.{level_recorded}
use Rattle.facts.specs.Subjects.{subject_of, is_of_session}
use Rattle.fact_walks.proofs.Unread.{unread}
use Rattle.root_states.specs.About.{of_levels}

one_more : (facts : List Fact) (i : ℕ) (fact : Fact) → slice_get facts i ≡ Some fact
    → take (i + 1) facts ≡ take i facts ++ fact ∷ []
one_more facts i fact h =
    take_more facts i fact (slice_get_within facts i fact h)
    ∙ ap (λ x. take i facts ++ x ∷ []) (get_or_from_slice_get facts i fact fact h)

module _ (session : SessionId) (front : List (ℕ × ℕ)) (facts : List Fact) (i : ℕ) where
  pub levels_more : (levels new : List (ℕ × ℕ)) (fact : Fact) → slice_get facts i ≡ Some fact
      → levels ≡ front ++ flat_map (level_recorded session) (take i facts)
      → new ≡ levels ++ level_recorded session fact
      → new ≡ front ++ flat_map (level_recorded session) (take (i + 1) facts)
  levels_more levels new fact at h k =
      k ∙ ap (λ s. s ++ level_recorded session fact) h
      ∙ flat_map_more (level_recorded session) front (take i facts) fact
      ∙ ap (λ fs. front ++ flat_map (level_recorded session) fs) (sym (one_more facts i fact at))

  levels_from : (levels new : List (ℕ × ℕ)) (o : Option Fact) → slice_get facts i ≡ o
      → levels ≡ front ++ flat_map (level_recorded session) (take i facts)
      → option_map (λ fact. levels ++ level_recorded session fact) o ≡ Some new
      → new ≡ front ++ flat_map (level_recorded session) (take (i + 1) facts)
  levels_from levels new None at h k = absurd cc
  levels_from levels new (Some fact) at h k =
      levels_more levels new fact at h (sym (same_Some (levels ++ level_recorded session fact) new k))

  pub levels_at : (levels new : List (ℕ × ℕ)) → levels ≡ front ++ flat_map (level_recorded session) (take i facts)
      → option_map (λ fact. levels ++ level_recorded session fact) (slice_get facts i) ≡ Some new
      → new ≡ front ++ flat_map (level_recorded session) (take (i + 1) facts)
  levels_at levels new h k = levels_from levels new (slice_get facts i) refl h k

-- a fact that isn't about the session records none of its levels
pub no_level_at : (session : SessionId) (levels : List (ℕ × ℕ)) (facts : List Fact) (i : ℕ) (subject : Subject)
    → option_map subject_of (slice_get facts i) ≡ Some subject → is_of_session session subject ≡ false
    → option_map (λ fact. levels ++ level_recorded session fact) (slice_get facts i) ≡ Some levels
no_level_at session levels facts i subject at other =
    unread (is_of_session session) (λ fact. levels ++ level_recorded session fact) levels
    (λ fact h. ap (λ s. levels ++ s) (of_levels session fact h) ∙ append-nil levels) facts i subject at other
