-- An account that an administrator names, and what is told of it.
use Rattle.std.specs.Prelude.{ℕ, List, ◌++◌, Option, Some, None, Result, Ok, Err, codes}
use Rattle.login_base.specs.declared.id.UserId.{UserId}
use Rattle.asks.specs.declared.reply.What.TheVariants as whats
use Rattle.facts.specs.declared.fact.Fact.{Fact}
use Rattle.facts.specs.Accounts.{account_named}
use Rattle.hall_answers.specs.declared.answer.Answer.{Answer}
use Rattle.hall_answers.specs.declared.refusal.Refusal.{Refusal}
use Rattle.hall_answers.specs.declared.refusal.Refusal.TheVariants.{NoSuchUser}
use Rattle.hall_answers.specs.Answers.{reply_in}

abbrev pub user_from : Option UserId → Result UserId Refusal
user_from None = Err NoSuchUser
user_from (Some user) = Ok user

-- an account has the name
unfoldable pub check_user : List Fact → List ℕ → Result UserId Refusal
check_user facts name = user_from (account_named name facts)

-- that it is done
abbrev pub done_text : List ℕ → List ℕ
done_text name = codes "done name=" ++ name

-- these facts are added, and it is told that it is done
abbrev pub done : List ℕ → List Fact → Answer
done name added = record { reply = reply_in None (whats.Told (done_text name)); added = added }
