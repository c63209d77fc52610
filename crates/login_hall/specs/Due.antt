-- What an ask is due over a chronicle: the one right reply, and the facts that it adds.
use Rattle.std.specs.Prelude.{ℕ, List, None}
use Rattle.login_base.specs.declared.draws.Draws.{Draws}
use Rattle.asks.specs.declared.ask.Ask.{Ask}
use Rattle.asks.specs.declared.ask.Ask.TheVariants as asks
use Rattle.facts.specs.declared.fact.Fact.{Fact}
use Rattle.asks.specs.declared.finding.Finding.{Finding}
use Rattle.asks.specs.declared.reply.What.TheVariants as whats
use Rattle.asks.specs.Solved.{SolvedAsk}
use Rattle.hall_answers.specs.declared.answer.Answer.{Answer}
use Rattle.hall_answers.specs.Answers.{only}
use Rattle.hall_answers.specs.Setting.{Setting, setting_at}
use Rattle.token_asks.specs.Follow.{due_verify, due_reset}
use Rattle.tab_pages.specs.Pages.{due_page}
use Rattle.root_asks.specs.Logout.{due_logout}
use Rattle.root_asks.specs.NewTab.{due_new_tab}
use Rattle.tab_asks.specs.Post.{due_post}
use Rattle.admin_asks.specs.Admin.{due_admin}

-- by cases on the ask
abbrev pub due_ask : Setting → Ask → Finding → Answer
due_ask setting (asks.Bad at) finding = only None (whats.BadForm at)
due_ask setting (asks.NewTab new) finding = due_new_tab setting new
due_ask setting (asks.Page root tab) finding = due_page setting root tab
due_ask setting (asks.Post post) finding = due_post setting post finding
due_ask setting (asks.Verify key) finding = due_verify setting key
due_ask setting (asks.Reset key password) finding = due_reset setting key finding
due_ask setting (asks.Logout root) finding = due_logout setting root
due_ask setting (asks.Admin access verb) finding = due_admin setting access verb finding

abbrev pub due : List Fact → SolvedAsk → ℕ → Draws → Answer
due facts solved moment draws = due_ask (setting_at facts moment draws) solved.ask solved.finding
