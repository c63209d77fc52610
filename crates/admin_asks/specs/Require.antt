-- What the requiring of an action is due.
use Rattle.std.specs.Prelude.{ℕ, List, [], ◌∷◌, None}
use Rattle.login_base.specs.declared.id.UserId.{UserId}
use Rattle.realm_data.specs.declared.action.Action.{Action}
use Rattle.facts.specs.declared.fact.Fact.TheVariants as events
use Rattle.hall_answers.specs.declared.answer.Answer.{Answer}
use Rattle.hall_answers.specs.Refusals.{settled}
use Rattle.hall_answers.specs.Setting.{Setting}
use Rattle.admin_asks.specs.Named.{check_user, done}

-- the action is required of the user from now on, whether it was before or not
abbrev pub answer_to_require : List ℕ → Action → UserId → Answer
answer_to_require name kind user = done name (events.ActionSet user kind ∷ [])

unfoldable pub due_require : Setting → List ℕ → Action → Answer
due_require setting name kind = settled setting.facts None (answer_to_require name kind) (check_user setting.facts name)
