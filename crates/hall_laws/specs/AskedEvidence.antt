-- What evidence rests on: a post that the tab asked for.
use Rattle.std.specs.Prelude.{◌≡◌, ℕ, Bool, true, false, List, Option, Some, None, Ok}
use Rattle.login_base.specs.declared.id.TabKey.{TabKey}
use Rattle.asks.specs.declared.ask.Ask.{Ask}
use Rattle.asks.specs.declared.ask.Ask.TheVariants as asks
use Rattle.asks.specs.declared.ask.Form.{Form}
use Rattle.asks.specs.declared.ask.Form.TheVariants as forms
use Rattle.asks.specs.declared.ask.Post.{Post}
use Rattle.facts.specs.declared.fact.Fact.{Fact}
use Rattle.facts.specs.declared.fact.Fact.TheVariants as events
use Rattle.facts.specs.Tabs.{shown_code}
use Rattle.hall_answers.specs.Setting.{Setting}
use Rattle.login_progress.specs.declared.known_tab.KnownTab.{KnownTab}
use Rattle.login_progress.specs.Progress.{asked_in}
use Rattle.tab_asks.specs.Post.{has_need}
use Rattle.tab_pages.specs.Visit.{check_tab}
use Rattle.hall_laws.specs.Ready.{progress_at}

-- the execution that a form names, if any
abbrev pub execution_of : Form → Option (List ℕ)
execution_of (forms.Username execution name) = Some execution
execution_of (forms.Password execution password) = Some execution
execution_of (forms.NamePassword execution name password) = Some execution
execution_of (forms.Value execution value) = Some execution
execution_of forms.Terms = None
execution_of (forms.UpdatePassword password) = None
execution_of (forms.ConfigureOtp value) = None
execution_of forms.RecoveryCodes = None
execution_of forms.VerifyEmail = None

-- evidence for an execution in a tab is right after a post
pub record IsRightEvidence (setting : Setting) (post : Post) (tab : TabKey) (execution : List ℕ) : Type 0 where
  -- it is of the post's tab
  pub is_its_tab : tab ≡ post.tab
  -- it is for the form's execution
  pub is_of_form : execution_of post.form ≡ Some execution
  -- the post's root has the tab, which lives
  pub known : KnownTab
  pub is_known : check_tab setting.facts setting.moment post.root post.tab ≡ Ok known
  -- the post's code is the one that the tab showed last
  pub is_shown : shown_code known.state ≡ Some post.code
  -- the tab asks an execution that the form answers
  pub is_asked : has_need (asked_in (progress_at setting known)) post.form ≡ true

-- the fact is right evidence after the post, or none
abbrev pub IsAskedEvidence : Setting → Post → Fact → Type 0
IsAskedEvidence setting post (events.Passed tab execution user kind credential moment) =
    IsRightEvidence setting post tab execution
IsAskedEvidence setting post event = Unit {0}

abbrev pub is_evidence : Fact → Bool
is_evidence (events.Passed tab execution user kind credential moment) = true
is_evidence event = false

abbrev pub is_post : Ask → Bool
is_post (asks.Bad at) = false
is_post (asks.NewTab new) = false
is_post (asks.Page root tab) = false
is_post (asks.Post post) = true
is_post (asks.Verify key) = false
is_post (asks.Reset key password) = false
is_post (asks.Logout root) = false
is_post (asks.Admin access verb) = false
