-- What the setting of a secret of one-time codes is due.
use Rattle.std.specs.Prelude.{ℕ, ◌+◌, List, Some, None}
use Rattle.login_base.specs.declared.id.UserId.{UserId}
use Rattle.facts.specs.declared.fact.Fact.{Fact}
use Rattle.facts.specs.Serials.{last_stored_serial}
use Rattle.hall_answers.specs.declared.answer.Answer.{Answer}
use Rattle.hall_answers.specs.Refusals.{settled}
use Rattle.hall_answers.specs.Setting.{Setting}
use Rattle.admin_asks.specs.Account.{otp_facts}
use Rattle.admin_asks.specs.Named.{check_user, done}

-- the secret is the user's from now on, with the next serial
abbrev pub answer_to_otp_set : List Fact → List ℕ → List ℕ → UserId → Answer
answer_to_otp_set facts name key user = done name (otp_facts user (last_stored_serial facts + 1) (Some key))

unfoldable pub due_otp_set : Setting → List ℕ → List ℕ → Answer
due_otp_set setting name key = settled setting.facts None (answer_to_otp_set setting.facts name key) (check_user setting.facts name)
