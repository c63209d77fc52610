-- What it is due to close an account and to open it.
use Rattle.std.specs.Prelude.{ℕ, List, [], ◌∷◌, None, Result, Ok, Err, if◌then◌else◌}
use Rattle.login_base.specs.declared.id.UserId.{UserId}
use Rattle.account_states.specs.States.{is_closed}
use Rattle.facts.specs.declared.fact.Fact.{Fact}
use Rattle.facts.specs.declared.fact.Fact.TheVariants as events
use Rattle.hall_answers.specs.declared.answer.Answer.{Answer}
use Rattle.hall_answers.specs.declared.refusal.Refusal.{Refusal}
use Rattle.hall_answers.specs.declared.refusal.Refusal.TheVariants.{AccountDisabled}
use Rattle.hall_answers.specs.Refusals.{◌>>=◌, settled}
use Rattle.hall_answers.specs.Setting.{Setting}
use Rattle.admin_asks.specs.Named.{check_user, done}

-- ---- enable: the account isn't disabled any more, and its failures are forgotten

abbrev pub answer_to_enable : List ℕ → UserId → Answer
answer_to_enable name user = done name (events.Enabled user ∷ [])

unfoldable pub due_enable : Setting → List ℕ → Answer
due_enable setting name = settled setting.facts None (answer_to_enable name) (check_user setting.facts name)

-- ---- disable: the account is disabled until it is enabled

abbrev pub answer_to_disable : List ℕ → UserId → Answer
answer_to_disable name user = done name (events.Disabled user ∷ [])

unfoldable pub due_disable : Setting → List ℕ → Answer
due_disable setting name = settled setting.facts None (answer_to_disable name) (check_user setting.facts name)

-- ---- unlock: the failures of an account that isn't closed are forgotten

abbrev pub if_open : List Fact → UserId → Result UserId Refusal
if_open facts user = if is_closed user facts then Err AccountDisabled else Ok user

-- the account of this name, which isn't closed
unfoldable pub check_open : List Fact → List ℕ → Result UserId Refusal
check_open facts name = check_user facts name >>= if_open facts

unfoldable pub due_unlock : Setting → List ℕ → Answer
due_unlock setting name = settled setting.facts None (answer_to_enable name) (check_open setting.facts name)
