-- Replies by whether they name a tab, and answers.
use Rattle.std.specs.Prelude.{List, [], ◌++◌, Option, Some, None}
use Rattle.login_base.specs.declared.id.RootKey.{RootKey}
use Rattle.login_base.specs.declared.id.TabKey.{TabKey}
use Rattle.facts.specs.declared.fact.Fact.{Fact}
use Rattle.asks.specs.declared.reply.Reply.{Reply}
use Rattle.asks.specs.declared.reply.What.{What}
use Rattle.hall_answers.specs.declared.answer.Answer.{Answer}

-- a reply that names this tab, or none
abbrev pub reply_in : Option TabKey → What → Reply
reply_in tab what = record { tab = tab; opened = None; what = what }

abbrev pub in_tab : TabKey → What → Reply
in_tab tab what = reply_in (Some tab) what

-- the reply, and nothing added
abbrev pub only : Option TabKey → What → Answer
only tab what = record { reply = reply_in tab what; added = [] }

-- a reply in a tab, with the facts that it adds
abbrev pub answer_in : TabKey → What → List Fact → Answer
answer_in tab what added = record { reply = in_tab tab what; added = added }

-- these facts are added before those of the answer
abbrev pub after_facts : List Fact → Answer → Answer
after_facts added answer = record answer { added = added ++ answer.added }

-- an answer that carries the key of a new root too
abbrev pub with_root : RootKey → Answer → Answer
with_root root answer = record answer { reply = record { tab = answer.reply.tab; opened = Some root; what = answer.reply.what } }
