-- What the adding of a user is due.
use Rattle.std.specs.Prelude.{ℕ, ◌+◌, true, List, ◌++◌, None, Result, Ok, Err, is_some, codes, decimal, if◌then◌else◌}
use Rattle.login_base.specs.declared.id.UserId.{UserId}
use Rattle.asks.specs.declared.admin.NewUser.{NewUser}
use Rattle.facts.specs.declared.fact.Fact.{Fact}
use Rattle.asks.specs.declared.finding.Finding.{Finding}
use Rattle.asks.specs.declared.reply.What.TheVariants as whats
use Rattle.facts.specs.Accounts.{account_named}
use Rattle.facts.specs.Serials.{last_stored_serial}
use Rattle.hall_answers.specs.declared.answer.Answer.{Answer}
use Rattle.hall_answers.specs.declared.refusal.Refusal.{Refusal}
use Rattle.hall_answers.specs.declared.refusal.Refusal.TheVariants.{UserTaken, TooManyUsers}
use Rattle.hall_answers.specs.Answers.{reply_in}
use Rattle.hall_answers.specs.Refusals.{◌>>=◌, settled}
use Rattle.hall_answers.specs.Setting.{Setting}
use Rattle.account_states.specs.Count.{has_room}
use Rattle.admin_asks.specs.Account.{GivenSecrets, account_facts}
use Rattle.hall_answers.specs.Passwords.{derived}

-- no account has the name
unfoldable pub check_name_free : List Fact → List ℕ → Result (Unit {0}) Refusal
check_name_free facts name = if is_some (account_named name facts) then Err UserTaken else Ok tt

-- there are fewer accounts than there may be
unfoldable pub check_room : List Fact → Result (Unit {0}) Refusal
check_room facts = if has_room facts then Ok tt else Err TooManyUsers

-- the new account, or the first refusal
unfoldable pub check_new_user : List Fact → NewUser → Result UserId Refusal
check_new_user facts new = do
  free ← check_name_free facts new.name
  room ← check_room facts
  Ok (record { 0 = last_stored_serial facts + 1 })

-- what an administrator is told of an added user
abbrev pub user_text : List ℕ → UserId → List ℕ
user_text name user = codes "user name=" ++ name ++ codes " id=" ++ decimal user.0

abbrev pub given_by : NewUser → Finding → GivenSecrets
given_by new finding = record { password = derived finding; otp = new.otp; recovery = None }

-- the account is added, with the password, the secret of one-time codes and the actions that the ask gives
abbrev pub answer_to_new_user : NewUser → Finding → UserId → Answer
answer_to_new_user new finding user =
    record {
      reply = reply_in None (whats.Told (user_text new.name user));
      added = account_facts user new.name new.roles true (given_by new finding) new.actions;
    }

unfoldable pub due_user_add : Setting → NewUser → Finding → Answer
due_user_add setting new finding = settled setting.facts None (answer_to_new_user new finding) (check_new_user setting.facts new)
