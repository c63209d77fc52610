-- What the putting of a realm is due.
use Rattle.std.specs.Prelude.{ℕ, ◌+◌, List, [], ◌∷◌, ◌++◌, Option, Some, None, Result, Ok, Err, codes, decimal}
use Rattle.realm_data.specs.declared.realm_parts.RealmParts.{RealmParts}
use Rattle.asks.specs.declared.reply.What.TheVariants as whats
use Rattle.facts.specs.declared.fact.Fact.{Fact}
use Rattle.facts.specs.declared.fact.Fact.TheVariants as events
use Rattle.facts.specs.Realms.{last_version}
use Rattle.hall_answers.specs.declared.answer.Answer.{Answer}
use Rattle.hall_answers.specs.declared.refusal.Refusal.{Refusal}
use Rattle.hall_answers.specs.declared.refusal.Refusal.TheVariants.{RealmRefused}
use Rattle.hall_answers.specs.Answers.{reply_in}
use Rattle.hall_answers.specs.Refusals.{settled}
use Rattle.hall_answers.specs.Setting.{Setting}

-- the text was a realm
unfoldable pub check_realm : Option RealmParts → Result RealmParts Refusal
check_realm None = Err RealmRefused
check_realm (Some realm) = Ok realm

abbrev pub version_text : ℕ → List ℕ
version_text version = codes "realm version=" ++ decimal version

-- the realm is in force from now on, as the next version; it adds no users, and open tabs go on with theirs
abbrev pub answer_to_realm : List Fact → RealmParts → Answer
answer_to_realm facts realm =
    record {
      reply = reply_in None (whats.Told (version_text (last_version facts + 1)));
      added = events.RealmPut (last_version facts + 1) realm ∷ [];
    }

unfoldable pub due_realm_put : Setting → Option RealmParts → Answer
due_realm_put setting realm = settled setting.facts None (answer_to_realm setting.facts) (check_realm realm)
