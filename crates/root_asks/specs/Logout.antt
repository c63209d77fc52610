-- What a logout is due.
use Rattle.std.specs.Prelude.{List, [], ◌∷◌, Option, Some, None}
use Rattle.login_base.specs.declared.id.RootKey.{RootKey}
use Rattle.asks.specs.declared.reply.What.TheVariants as whats
use Rattle.facts.specs.declared.fact.Fact.{Fact}
use Rattle.facts.specs.declared.fact.Fact.TheVariants as events
use Rattle.facts.specs.declared.tabs.RootSession.{RootSession}
use Rattle.facts.specs.Roots.{session_of}
use Rattle.facts.specs.Tabs.{live_among}
use Rattle.hall_answers.specs.declared.answer.Answer.{Answer}
use Rattle.hall_answers.specs.Answers.{reply_in}
use Rattle.hall_answers.specs.Setting.{Setting}

-- the live session of the root, if one is given
abbrev pub live_in : Setting → Option RootKey → Option RootSession
live_in setting None = None
live_in setting (Some root) = live_among setting.moment (session_of root setting.facts)

-- the session is over
abbrev pub end_facts : Option RootSession → List Fact
end_facts None = []
end_facts (Some own) = events.SessionEnd own.session ∷ []

-- whoever logs out is logged out, whether a session was live or not
unfoldable pub due_logout : Setting → Option RootKey → Answer
due_logout setting root = record { reply = reply_in None whats.LoggedOut; added = end_facts (live_in setting root) }
