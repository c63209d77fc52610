-- A code and a token are used once.
use Rattle.std.specs.Prelude.{◌≡◌, Bool, false, ◌&&◌, ◌==◌, List, [], ◌∷◌}
use Rattle.std.specs.List.{list_any}
use Rattle.login_base.specs.IdText.{same_id}
use Rattle.facts.specs.declared.fact.Fact.{Fact}
use Rattle.facts.specs.declared.fact.Fact.TheVariants as events

-- both spend the same: of one secret the same time step, of one list the same number, or the same token
abbrev pub spends_same : Fact → Fact → Bool
spends_same (events.SpentStep first step) (events.SpentStep second other) = first == second && step == other
spends_same (events.SpentRecovery first number) (events.SpentRecovery second other) = first == second && number == other
spends_same (events.SpentToken first) (events.SpentToken second) = same_id first.0 second.0
spends_same fact other = false

-- what a fact spends, no later one does
unfoldable pub AreSpentOnce : List Fact → Type 0
AreSpentOnce [] = Unit {0}
AreSpentOnce (fact ∷ facts) = (list_any (spends_same fact) facts ≡ false) × AreSpentOnce facts
