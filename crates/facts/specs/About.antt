-- A fact of another subject has no answer to a question.
use Rattle.std.proofs.Common.{◌≡◌, false, None, refl}
use Rattle.facts.specs.declared.fact.Fact.{Fact}
use Rattle.facts.specs.declared.fact.Fact.TheVariants as events
use Rattle.facts.specs.Realms.{realm_put}
use Rattle.facts.specs.Subjects.{subject_of, is_realm}

pub of_realm : (fact : Fact) → is_realm (subject_of fact) ≡ false → realm_put fact ≡ None
of_realm (events.RealmPut version realm) h = absurd cc
of_realm fact h = refl
