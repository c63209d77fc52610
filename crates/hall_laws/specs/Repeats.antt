-- A post that comes again as the very next ask.
use Rattle.std.specs.Prelude.{◌≡◌, ℕ, ◌≤◌, Bool, true, false, List, Some, None, Ok, IsTrue}
use Rattle.std.specs.List.{All}
use Rattle.login_base.specs.declared.id.TabKey.{TabKey}
use Rattle.facts.specs.declared.fact.Fact.{Fact}
use Rattle.facts.specs.declared.fact.Fact.TheVariants as events
use Rattle.asks.specs.declared.ask.Post.{Post}
use Rattle.asks.specs.declared.reply.Reply.{Reply}
use Rattle.asks.specs.declared.reply.What.{What}
use Rattle.asks.specs.declared.reply.What.TheVariants as whats
use Rattle.facts.specs.Serials.{last_tab_serial}
use Rattle.facts.specs.Tabs.{tab_is_live, tab_is_known}
use Rattle.hall_answers.specs.declared.answer.Answer.{Answer}
use Rattle.hall_answers.specs.Answers.{in_tab, only}
use Rattle.hall_answers.specs.Setting.{Setting}
use Rattle.login_progress.specs.declared.known_tab.KnownTab.{KnownTab}
use Rattle.tab_pages.specs.Visit.{check_tab}

-- the serial of the code that a fact shows, 0 where it shows none
abbrev pub code_serial : Fact → ℕ
code_serial (events.Rendered tab code action offer) = code.0.serial
code_serial event = 0

-- no code that was shown has a serial above the last one of the tab counter
abbrev pub HasCodesCounted : List Fact → Type 0
HasCodesCounted facts = All (λ fact. code_serial fact ≤ last_tab_serial facts) facts

-- the post is refused because its tab has completed, and nothing is added
abbrev pub refused_as_finished : TabKey → Answer
refused_as_finished tab = only (Some tab) whats.Finished

-- the refusals of a repeat: the code is stale, the user another, the tab finished, or the form not asked
abbrev pub is_repeat_refusal : What → Bool
is_repeat_refusal (whats.Stale current) = true
is_repeat_refusal (whats.OtherUser tab session) = true
is_repeat_refusal whats.Finished = true
is_repeat_refusal whats.NotAsked = true
is_repeat_refusal what = false

-- the reply names the tab, and is one of these refusals
pub record IsRepeatRefused (tab : TabKey) (reply : Reply) : Type 0 where
  pub in_its_tab : reply ≡ in_tab tab reply.what
  pub refusal : IsTrue (is_repeat_refusal reply.what)

-- what a post is answered again at a later moment: in one way while its tab lives, and then as one that has none
pub record IsAnsweredAgain (Living : Type 0) (setting : Setting) (post : Post) (later : ℕ) (answer : Answer)
    : Type 0 where
  -- its tab, as it was known to the first post
  pub known : KnownTab
  pub is_known : check_tab setting.facts setting.moment post.root post.tab ≡ Ok known
  -- while the tab lives
  pub living : tab_is_live later known.opening ≡ true → Living
  -- once it lives no longer, and is still known: it is expired, and nothing is added
  pub expired :
      tab_is_live later known.opening ≡ false → tab_is_known later known.opening ≡ true
      → answer ≡ only None whats.TabExpired
  -- once it is forgotten: it is unknown, and nothing is added
  pub forgotten : tab_is_known later known.opening ≡ false → answer ≡ only None whats.UnknownTab
