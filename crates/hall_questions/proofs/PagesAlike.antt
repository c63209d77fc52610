-- What a tab is answered that may go on, where lists of facts answer alike.
use Rattle.std.proofs.Common.{◌≡◌, ℕ, List, Option, Some, None, refl, ap, ◌∙◌}
use Rattle.login_base.specs.declared.draws.Draws.{Draws}
use Rattle.login_base.specs.declared.id.RootKey.{RootKey}
use Rattle.login_base.specs.declared.id.SessionId.{SessionId}
use Rattle.login_base.specs.declared.id.TabKey.{TabKey}
use Rattle.login_base.specs.declared.id.UserId.{UserId}
use Rattle.realm_data.specs.declared.action.Action.{Action}
use Rattle.realm_data.specs.declared.realm_parts.RealmParts.{RealmParts}
use Rattle.asks.specs.declared.reply.Need.{Need}
use Rattle.asks.specs.declared.reply.What.TheVariants as whats
use Rattle.facts.specs.declared.fact.Fact.{Fact}
use Rattle.facts.specs.declared.tabs.RootSession.{RootSession}
use Rattle.facts.specs.Tabs.{live_session, who_of}
use Rattle.hall_answers.specs.declared.answer.Answer.{Answer}
use Rattle.hall_answers.specs.Answers.{answer_in}
use Rattle.hall_answers.specs.Refusals.{who_named}
use Rattle.hall_answers.specs.Setting.{Setting}
use Rattle.login_progress.specs.declared.known_tab.KnownTab.{KnownTab}
use Rattle.login_progress.specs.declared.progress.Progress.{Progress}
use Rattle.login_progress.specs.declared.progress.Progress.TheVariants as progresses
use Rattle.login_progress.specs.Progress.{progress_of}
use Rattle.tab_pages.specs.Offering.{offer_for, shown_in}
use Rattle.tab_pages.specs.Pages.{form_page, action_page, session_for, completion_facts, completion, progress_answer, tab_answer, tab_answer_then, visit_answer, due_page}
use Rattle.tab_pages.specs.Visit.{check_known, check_tab, check_enabled, check_account, check_visit, tab_in}
use Rattle.hall_questions.specs.Questions.{AnswerAlike}
use Rattle.hall_questions.proofs.ProgressAlike.{progress_alike}
use Rattle.hall_questions.proofs.Shared.{under, settled_alike, standing_alike}

-- ---- which tab, and whether it may go on

module _ (one other : List Fact) (alike : AnswerAlike one other) where
  known_alike : (moment : ℕ) (root : Option RootKey) (tab : TabKey) → check_known one moment root tab ≡ check_known other moment root tab
  unfolding check_known tab_in
  known_alike moment None tab = refl
  known_alike moment (Some root) tab = rw (alike.tab root tab) refl

  pub tab_alike : (moment : ℕ) (root : Option RootKey) (tab : TabKey) → check_tab one moment root tab ≡ check_tab other moment root tab
  unfolding check_tab
  tab_alike moment root tab = rw (known_alike moment root tab) refl

  pub account_alike : (moment : ℕ) (who : Option UserId) → check_account one moment who ≡ check_account other moment who
  unfolding check_account check_enabled
  account_alike moment None = refl
  account_alike moment (Some user) = rw (standing_alike one other alike user, alike.disabled user) refl

  visit_alike : (moment : ℕ) (known : KnownTab) → check_visit one moment known ≡ check_visit other moment known
  unfolding check_visit
  visit_alike moment known = rw (account_alike moment (who_of moment known.state)) refl

  pub shown_alike : (known : KnownTab) (action : Action) (offer : List ℕ) → shown_in one known action offer ≡ shown_in other known action offer
  unfolding shown_in
  shown_alike known action offer = rw (alike.realm_of known.opening.version) refl

-- ---- what it is answered over facts that answer alike, whatever the ask met

abbrev completion_by : List Fact → Setting → KnownTab → UserId → List ℕ → Option RootSession → SessionId → Answer
completion_by facts setting known user levels live session =
    answer_in known.tab (whats.Done session (who_named facts user) known.opening.level) (completion_facts setting known user levels session live)

module _ (one other : List Fact) (alike : AnswerAlike one other) (before after : List Fact) (realm : RealmParts) (moment : ℕ) (draws : Draws) where
  abbrev first : Setting
  first = under realm moment draws before

  abbrev second : Setting
  second = under realm moment draws after

  session_alike : (live : Option RootSession) → session_for one draws live ≡ session_for other draws live
  session_alike None = rw (alike.stored_serial) refl
  session_alike (Some own) = refl

  told_alike : (known : KnownTab) (user : UserId) (levels : List ℕ) (live : Option RootSession) (session : SessionId)
      → completion_by one first known user levels live session ≡ completion_by other second known user levels live session
  told_alike known user levels None session = rw (alike.name user) refl
  told_alike known user levels (Some own) session = rw (alike.name user) refl

  completion_alike : (known : KnownTab) (user : UserId) (levels : List ℕ) → completion one first known user levels ≡ completion other second known user levels
  unfolding completion
  completion_alike known user levels =
      let live = live_session moment known.state in
      ap (completion_by one first known user levels live) (session_alike live) ∙ told_alike known user levels live (session_for other draws live)

  form_alike : (tab : TabKey) (asked : List Need) → form_page one first tab asked ≡ form_page other second tab asked
  form_alike tab asked = rw (alike.tab_serial) refl

  action_alike : (known : KnownTab) (action : Action) → action_page one first known action ≡ action_page other second known action
  action_alike known action = rw (alike.tab_serial, shown_alike one other alike known action (offer_for known.state.page action draws)) refl

  answered_alike : (known : KnownTab) (progress : Progress) → progress_answer one first known progress ≡ progress_answer other second known progress
  unfolding progress_answer
  answered_alike known (progresses.Ready user levels) = completion_alike known user levels
  answered_alike known (progresses.Asked asked) = form_alike known.tab asked
  answered_alike known (progresses.Required user action) = action_alike known action
  answered_alike known progress = refl

  pub tab_answer_alike : (known : KnownTab) → tab_answer one first known ≡ tab_answer other second known
  unfolding tab_answer
  tab_answer_alike known =
      ap (progress_answer one first known) (progress_alike one other alike moment known) ∙ answered_alike known (progress_of other moment known)

  pub visit_answer_alike : (known : KnownTab) → visit_answer one first known ≡ visit_answer other second known
  unfolding visit_answer
  visit_answer_alike known =
      settled_alike one other alike (Some known.tab) (tab_answer_then one first known) (tab_answer_then other second known) (check_visit one moment known)
      (check_visit other moment known) (λ may. tab_answer_alike known) (visit_alike one other alike moment known)

-- ---- pages

pub page_alike : (one other : List Fact) → AnswerAlike one other → (realm : RealmParts) (moment : ℕ) (draws : Draws) (root : Option RootKey) (tab : TabKey)
    → due_page (under realm moment draws one) root tab ≡ due_page (under realm moment draws other) root tab
unfolding due_page
page_alike one other alike realm moment draws root tab =
    let first = under realm moment draws one in
    let second = under realm moment draws other in
    settled_alike one other alike None (visit_answer one first) (visit_answer other second) (check_tab one moment root tab)
    (check_tab other moment root tab) (λ (known : KnownTab). visit_answer_alike one other alike one other realm moment draws known)
    (tab_alike one other alike moment root tab)
