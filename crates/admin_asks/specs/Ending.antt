-- What the ending of sessions is due.
use Rattle.std.specs.Prelude.{ℕ, List, [], ◌∷◌, ◌++◌, None, map, length, Result, Ok, Err, codes, decimal, if◌then◌else◌}
use Rattle.login_base.specs.IdText.{id_bytes}
use Rattle.login_base.specs.declared.id.SessionId.{SessionId}
use Rattle.asks.specs.declared.reply.What.TheVariants as whats
use Rattle.facts.specs.declared.fact.Fact.{Fact}
use Rattle.facts.specs.declared.fact.Fact.TheVariants as events
use Rattle.facts.specs.declared.tabs.RootSession.{RootSession}
use Rattle.facts.specs.Sessions.{is_standing, outlived_sessions}
use Rattle.hall_answers.specs.declared.answer.Answer.{Answer}
use Rattle.hall_answers.specs.declared.refusal.Refusal.{Refusal}
use Rattle.hall_answers.specs.declared.refusal.Refusal.TheVariants.{NoSuchSession}
use Rattle.hall_answers.specs.Answers.{reply_in}
use Rattle.hall_answers.specs.Refusals.{settled}
use Rattle.hall_answers.specs.Setting.{Setting}

-- ---- revoke: one session is over

-- there is a session of this id that hasn't been ended, whether it lives or not
unfoldable pub check_session : List Fact → SessionId → Result (Unit {0}) Refusal
check_session facts session = if is_standing session facts then Ok tt else Err NoSuchSession

abbrev pub revoked_text : SessionId → List ℕ
revoked_text session = codes "revoked session=" ++ id_bytes session.0

abbrev pub answer_to_revoke : SessionId → Unit {0} → Answer
answer_to_revoke session there =
    record { reply = reply_in None (whats.Told (revoked_text session)); added = events.SessionEnd session ∷ [] }

unfoldable pub due_revoke : Setting → SessionId → Answer
due_revoke setting session = settled setting.facts None (answer_to_revoke session) (check_session setting.facts session)

-- ---- sweep: each session is over that doesn't live any more

abbrev pub swept_text : ℕ → List ℕ
swept_text count = codes "swept count=" ++ decimal count

-- the sessions that have outlived their lives, in the order in which they began
abbrev pub outlived_ids : ℕ → List Fact → List SessionId
outlived_ids moment facts = map (λ (own : RootSession). own.session) (outlived_sessions moment facts)

abbrev pub answer_to_sweep : List SessionId → Answer
answer_to_sweep ended =
    record { reply = reply_in None (whats.Told (swept_text (length ended))); added = map events.SessionEnd ended }

unfoldable pub due_sweep : Setting → Answer
due_sweep setting = answer_to_sweep (outlived_ids setting.moment setting.facts)
