-- A fact that isn't read changes nothing.
use Rattle.std.proofs.Common.{◌≡◌, ℕ, Bool, false, List, Option, Some, None, option_map, slice_get, ap, ◌∙◌}
use Rattle.std.proofs.lemmas.Option.{same_Some}
use Rattle.facts.specs.declared.fact.Fact.{Fact}
use Rattle.facts.specs.declared.subject.Subject.{Subject}
use Rattle.facts.specs.Subjects.{subject_of}

module _ {A : Type 0} (about : Subject → Bool) (answer : Fact → A) (nothing : A) (only : (fact : Fact) → about (subject_of fact) ≡ false → answer fact ≡ nothing) where
  passed : (o : Option Fact) (subject : Subject) → option_map subject_of o ≡ Some subject → about subject ≡ false → option_map answer o ≡ Some nothing
  passed None subject h k = absurd cc
  passed (Some fact) subject h k = ap Some (only fact (ap about (same_Some (subject_of fact) subject h) ∙ k))

  pub unread : (facts : List Fact) (i : ℕ) (subject : Subject) → option_map subject_of (slice_get facts i) ≡ Some subject → about subject ≡ false → option_map answer (slice_get facts i) ≡ Some nothing
  unread facts i subject h k = passed (slice_get facts i) subject h k
