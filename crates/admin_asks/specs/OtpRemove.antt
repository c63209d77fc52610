-- What the taking away of a secret of one-time codes is due.
use Rattle.std.specs.Prelude.{ℕ, List, [], ◌∷◌, None, Result, Ok, Err, is_some, if◌then◌else◌}
use Rattle.conditions.specs.declared.secret_kind.SecretKind.TheVariants as kinds
use Rattle.login_base.specs.declared.id.UserId.{UserId}
use Rattle.facts.specs.declared.fact.Fact.{Fact}
use Rattle.facts.specs.declared.fact.Fact.TheVariants as events
use Rattle.facts.specs.declared.secret.Secret.TheVariants as secrets
use Rattle.facts.specs.Secrets.{otp_of}
use Rattle.hall_answers.specs.declared.answer.Answer.{Answer}
use Rattle.hall_answers.specs.declared.refusal.Refusal.{Refusal}
use Rattle.hall_answers.specs.declared.refusal.Refusal.TheVariants.{NothingThere}
use Rattle.hall_answers.specs.Refusals.{◌>>=◌, settled}
use Rattle.hall_answers.specs.Setting.{Setting}
use Rattle.admin_asks.specs.Named.{check_user, done}

-- the user has a secret of one-time codes
abbrev pub if_there : List Fact → UserId → Result UserId Refusal
if_there facts user = if is_some (otp_of user facts) then Ok user else Err NothingThere

-- an account has the name, and a secret of one-time codes
unfoldable pub check_there : List Fact → List ℕ → Result UserId Refusal
check_there facts name = check_user facts name >>= if_there facts

-- it is gone, with the serial 0
abbrev pub removal : UserId → Fact
removal user = events.SecretSet user kinds.Otp 0 secrets.Gone None

abbrev pub answer_to_otp_remove : List ℕ → UserId → Answer
answer_to_otp_remove name user = done name (removal user ∷ [])

unfoldable pub due_otp_remove : Setting → List ℕ → Answer
due_otp_remove setting name = settled setting.facts None (answer_to_otp_remove name) (check_there setting.facts name)
