-- What the setting of a password is due.
use Rattle.std.specs.Prelude.{ℕ, ◌+◌, List, None}
use Rattle.login_base.specs.declared.id.UserId.{UserId}
use Rattle.asks.specs.declared.finding.Finding.{Finding}
use Rattle.facts.specs.declared.fact.Fact.{Fact}
use Rattle.facts.specs.Serials.{last_stored_serial}
use Rattle.hall_answers.specs.declared.answer.Answer.{Answer}
use Rattle.hall_answers.specs.Refusals.{settled}
use Rattle.hall_answers.specs.Setting.{Setting}
use Rattle.admin_asks.specs.Named.{check_user, done}
use Rattle.hall_answers.specs.Passwords.{derived, password_facts}

-- the derived password is the user's from now on, with the next serial
abbrev pub answer_to_set_password : List Fact → List ℕ → Finding → UserId → Answer
answer_to_set_password facts name finding user =
    done name (password_facts user (last_stored_serial facts + 1) (derived finding) None)

unfoldable pub due_set_password : Setting → List ℕ → Finding → Answer
due_set_password setting name finding =
    settled setting.facts None (answer_to_set_password setting.facts name finding) (check_user setting.facts name)
