-- The levels of authentication that a session has reached.
use Rattle.std.specs.Prelude.{ℕ, List, [], ◌∷◌, if◌then◌else◌}
use Rattle.std.specs.List.{flat_map}
use Rattle.login_base.specs.IdText.{same_id}
use Rattle.login_base.specs.declared.id.SessionId.{SessionId}
use Rattle.facts.specs.declared.fact.Fact.{Fact}
use Rattle.facts.specs.declared.fact.Fact.TheVariants as events

-- the level that a fact records of the session, with its moment
abbrev pub level_recorded : SessionId → Fact → List (ℕ × ℕ)
level_recorded session (events.Level of level moment) = if same_id of.0 session.0 then (level, moment) ∷ [] else []
level_recorded session event = []

-- the levels that were recorded of the session, each with its moment, in their order
unfoldable pub levels_of : SessionId → List Fact → List (ℕ × ℕ)
levels_of session facts = flat_map (level_recorded session) facts
