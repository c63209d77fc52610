-- What was spent of secrets. A step and a number count for the secret of their serial alone.
use Rattle.std.specs.Prelude.{ℕ, max, ◌==◌, List, [], ◌∷◌, fold, if◌then◌else◌}
use Rattle.std.specs.List.{flat_map}
use Rattle.facts.specs.declared.fact.Fact.{Fact}
use Rattle.facts.specs.declared.fact.Fact.TheVariants as events

-- the time step whose code of this secret a fact spends
abbrev pub step_spent : ℕ → Fact → List ℕ
step_spent serial (events.SpentStep credential step) = if credential == serial then step ∷ [] else []
step_spent serial event = []

-- the time steps whose codes of this secret were used
unfoldable pub spent_steps : ℕ → List Fact → List ℕ
spent_steps serial facts = flat_map (step_spent serial) facts

abbrev pub number_after : ℕ → ℕ → Fact → ℕ
number_after serial last (events.SpentRecovery credential number) = if credential == serial then max last number else last
number_after serial last event = last

-- how many codes of this list were used: they are used in order, so it is the greatest number of a used one
unfoldable pub codes_spent : ℕ → List Fact → ℕ
codes_spent serial facts = fold (number_after serial) 0 facts
