-- What the putting of roles is due.
use Rattle.std.specs.Prelude.{ℕ, nat_le, List, [], ◌∷◌, None, Result, Ok, Err, if◌then◌else◌}
use Rattle.login_base.specs.declared.id.UserId.{UserId}
use Rattle.facts.specs.declared.fact.Fact.{Fact}
use Rattle.facts.specs.declared.fact.Fact.TheVariants as events
use Rattle.facts.specs.Serials.{last_stored_serial}
use Rattle.hall_answers.specs.declared.answer.Answer.{Answer}
use Rattle.hall_answers.specs.declared.refusal.Refusal.{Refusal}
use Rattle.hall_answers.specs.declared.refusal.Refusal.TheVariants.{NoSuchUser}
use Rattle.hall_answers.specs.Refusals.{◌>>=◌, settled}
use Rattle.hall_answers.specs.Setting.{Setting}
use Rattle.admin_asks.specs.Named.{check_user, done}

-- the user has these roles from now on, in the place of all that it had
abbrev pub answer_to_roles : List ℕ → List (List ℕ) → UserId → Answer
answer_to_roles name roles user = done name (events.UserPut user name roles ∷ [])

-- a user above the counter was never made
abbrev pub if_made : List Fact → UserId → Result UserId Refusal
if_made facts user = if nat_le user.0 (last_stored_serial facts) then Ok user else Err NoSuchUser

-- an account has the name
unfoldable pub check_made : List Fact → List ℕ → Result UserId Refusal
check_made facts name = check_user facts name >>= if_made facts

unfoldable pub due_roles : Setting → List ℕ → List (List ℕ) → Answer
due_roles setting name roles = settled setting.facts None (answer_to_roles name roles) (check_made setting.facts name)
