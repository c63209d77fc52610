-- What the making of a token is due.
use Rattle.std.specs.Prelude.{ℕ, ◌+◌, ◌*◌, nat_lt, List, [], ◌∷◌, ◌++◌, None, Result, Ok, Err, codes, if◌then◌else◌}
use Rattle.login_base.specs.IdText.{id_bytes}
use Rattle.login_base.specs.declared.id.TokenKey.{TokenKey}
use Rattle.login_base.specs.declared.id.UserId.{UserId}
use Rattle.asks.specs.declared.admin.TokenAction.{TokenAction}
use Rattle.asks.specs.declared.reply.What.TheVariants as whats
use Rattle.facts.specs.declared.fact.Fact.{Fact}
use Rattle.facts.specs.declared.fact.Fact.TheVariants as events
use Rattle.facts.specs.Tokens.{tokens_made}
use Rattle.hall_answers.specs.declared.answer.Answer.{Answer}
use Rattle.hall_answers.specs.declared.refusal.Refusal.{Refusal}
use Rattle.hall_answers.specs.declared.refusal.Refusal.TheVariants.{TooManyTokens}
use Rattle.hall_answers.specs.Answers.{reply_in}
use Rattle.hall_answers.specs.Ids.{next_token}
use Rattle.hall_answers.specs.Refusals.{◌>>=◌, settled}
use Rattle.hall_answers.specs.Setting.{Setting}
use Rattle.admin_asks.specs.Named.{check_user}

-- fewer tokens were made than may ever be
abbrev pub if_room : List Fact → UserId → Result UserId Refusal
if_room facts user = if nat_lt (tokens_made facts) 1000000 then Ok user else Err TooManyTokens

-- an account has the name, and one more token may be made
unfoldable pub check_holder : List Fact → List ℕ → Result UserId Refusal
check_holder facts name = check_user facts name >>= if_room facts

abbrev pub key_text : TokenKey → List ℕ
key_text key = codes "token key=" ++ id_bytes key.0

-- it lives for so many seconds
abbrev pub expiry_of : ℕ → ℕ → ℕ
expiry_of moment life = moment + 1000 * life

-- the token is made, and whoever is told its key can follow it
abbrev pub answer_to_token : Setting → TokenAction → ℕ → UserId → Answer
answer_to_token setting kind life user =
    record {
      reply = reply_in None (whats.Told (key_text (next_token setting.facts setting.draws)));
      added = events.TokenMade (next_token setting.facts setting.draws) user kind (expiry_of setting.moment life) ∷ [];
    }

unfoldable pub due_token : Setting → List ℕ → TokenAction → ℕ → Answer
due_token setting name kind life = settled setting.facts None (answer_to_token setting kind life) (check_holder setting.facts name)
