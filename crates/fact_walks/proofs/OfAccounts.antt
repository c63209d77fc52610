-- What is picked of facts about accounts alone.
use Rattle.std.proofs.Common.{◌≡◌, Bool, true, false, List, [], ◌∷◌, Option, None, refl, ap, sym, ◌∙◌}
use Rattle.std.specs.Prelude.{if◌then◌else◌}
use Rattle.std.specs.Option.{option_or}
use Rattle.facts.specs.declared.fact.Fact.{Fact}
use Rattle.facts.specs.Accounts.{account_facts}
use Rattle.facts.specs.Places.{last_of}
use Rattle.facts.specs.Subjects.{subject_of, is_account}
use Rattle.facts.proofs.PlacesLemmas.{option_or_none}

module _ {A : Type 0} (pick : Fact → Option A) (only : (fact : Fact) → is_account (subject_of fact) ≡ false → pick fact ≡ None) where
  step : (fact : Fact) (facts accounts : List Fact) (is : Bool) → is_account (subject_of fact) ≡ is → last_of pick accounts ≡ last_of pick facts
      → last_of pick (if is then fact ∷ accounts else accounts) ≡ last_of pick (fact ∷ facts)
  step fact facts accounts true e rest = ap (λ o. option_or o (pick fact)) rest
  step fact facts accounts false e rest = rest ∙ sym (option_or_none (last_of pick facts)) ∙ ap (option_or (last_of pick facts)) (sym (only fact e))

  pub last_of_accounts : (facts : List Fact) → last_of pick (account_facts facts) ≡ last_of pick facts
  last_of_accounts [] = refl
  last_of_accounts (fact ∷ facts) = step fact facts (account_facts facts) (is_account (subject_of fact)) refl (last_of_accounts facts)
