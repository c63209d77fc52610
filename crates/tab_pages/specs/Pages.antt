-- What a tab is answered that may go on: a page, a completion, or why there is neither.
use Rattle.std.specs.Prelude.{ℕ, List, [], ◌∷◌, ◌++◌, map, Option, Some, None}
use Rattle.login_base.specs.declared.id.Code.{Code}
use Rattle.login_base.specs.declared.id.RootKey.{RootKey}
use Rattle.login_base.specs.declared.id.SessionId.{SessionId}
use Rattle.login_base.specs.declared.id.TabKey.{TabKey}
use Rattle.login_base.specs.declared.id.UserId.{UserId}
use Rattle.login_base.specs.declared.draws.Draws.{Draws}
use Rattle.realm_data.specs.declared.action.Action.{Action}
use Rattle.facts.specs.declared.fact.Fact.{Fact}
use Rattle.facts.specs.declared.fact.Fact.TheVariants as events
use Rattle.asks.specs.declared.reply.Need.{Need}
use Rattle.asks.specs.declared.reply.What.TheVariants as whats
use Rattle.facts.specs.declared.tabs.RootSession.{RootSession}
use Rattle.facts.specs.Tabs.{live_session}
use Rattle.hall_answers.specs.declared.answer.Answer.{Answer}
use Rattle.hall_answers.specs.Answers.{only, answer_in}
use Rattle.hall_answers.specs.Ids.{next_code, next_session}
use Rattle.hall_answers.specs.Refusals.{who_named, settled}
use Rattle.hall_answers.specs.Setting.{Setting}
use Rattle.login_progress.specs.declared.known_tab.KnownTab.{KnownTab}
use Rattle.login_progress.specs.declared.progress.Progress.{Progress}
use Rattle.login_progress.specs.declared.progress.Progress.TheVariants as progresses
use Rattle.login_progress.specs.Progress.{progress_of}
use Rattle.tab_pages.specs.Offering.{no_offer, offer_for, shown_in}
use Rattle.tab_pages.specs.Visit.{check_visit, check_tab}

-- ---- pages

-- a page with this code is shown, which asks this action, if any, and has this offer
abbrev pub page_fact : TabKey → Code → Option Action → List ℕ → Fact
page_fact tab code action offer = events.Rendered tab code action offer

-- the page of these executions, with a new code; it offers nothing
abbrev pub form_page : List Fact → Setting → TabKey → List Need → Answer
form_page facts setting tab asked =
    answer_in tab (whats.Form (next_code facts setting.draws) asked) (page_fact tab (next_code facts setting.draws) None no_offer ∷ [])

-- the page of this action, with a new code and the texts that it shows
abbrev pub action_page : List Fact → Setting → KnownTab → Action → Answer
action_page facts setting known action =
    let code = next_code facts setting.draws in
    let offer = offer_for known.state.page action setting.draws in
    answer_in known.tab (whats.Action code action (shown_in facts known action offer)) (page_fact known.tab code (Some action) offer ∷ [])

-- ---- completions

-- the live session, or a new one
abbrev pub session_for : List Fact → Draws → Option RootSession → SessionId
session_for facts draws (Some own) = own.session
session_for facts draws None = next_session facts draws

-- a session begins where none is live, and lives as the realm in force says
abbrev pub beginning : Setting → SessionId → RootKey → UserId → Option RootSession → List Fact
beginning setting session root user (Some own) = []
beginning setting session root user None =
    events.Session session (Some root) user setting.moment setting.realm.session.idle setting.realm.session.max ∷ []

-- the session has reached these levels
abbrev pub levels_recorded : Setting → SessionId → List ℕ → List Fact
levels_recorded setting session levels = map (λ level. events.Level session level setting.moment) levels

-- a live session is used
abbrev pub seen_now : Setting → Option RootSession → List Fact
seen_now setting None = []
seen_now setting (Some own) = events.Seen own.session setting.moment ∷ []

abbrev pub completion_facts : Setting → KnownTab → UserId → List ℕ → SessionId → Option RootSession → List Fact
completion_facts setting known user levels session live =
    beginning setting session known.root user live ++ levels_recorded setting session levels ++ seen_now setting live
    ++ events.Completed known.tab user session setting.moment ∷ []

-- the login completes, and records these levels
unfoldable pub completion : List Fact → Setting → KnownTab → UserId → List ℕ → Answer
completion facts setting known user levels =
    let live = live_session setting.moment known.state in
    let session = session_for facts setting.draws live in
    answer_in known.tab (whats.Done session (who_named facts user) known.opening.level) (completion_facts setting known user levels session live)

-- ---- all together

unfoldable pub progress_answer : List Fact → Setting → KnownTab → Progress → Answer
progress_answer facts setting known (progresses.Ready user levels) = completion facts setting known user levels
progress_answer facts setting known (progresses.Asked asked) = form_page facts setting known.tab asked
progress_answer facts setting known (progresses.Denied execution) = only (Some known.tab) (whats.Denied execution)
progress_answer facts setting known (progresses.NotConfigured execution) = only (Some known.tab) (whats.NotConfigured execution)
progress_answer facts setting known progresses.DeadEnd = only (Some known.tab) whats.DeadEnd
progress_answer facts setting known (progresses.LevelMissed level) = only (Some known.tab) (whats.LevelMissed level)
progress_answer facts setting known (progresses.Required user action) = action_page facts setting known action

-- what a tab is answered over these facts
unfoldable pub tab_answer : List Fact → Setting → KnownTab → Answer
tab_answer facts setting known = progress_answer facts setting known (progress_of facts setting.moment known)

abbrev pub tab_answer_then : List Fact → Setting → KnownTab → Unit {0} → Answer
tab_answer_then facts setting known may = tab_answer facts setting known

-- what it is answered where it may go on
unfoldable pub visit_answer : List Fact → Setting → KnownTab → Answer
visit_answer facts setting known = settled facts (Some known.tab) (tab_answer_then facts setting known) (check_visit facts setting.moment known)

-- a page that is shown again is due a new code
unfoldable pub due_page : Setting → Option RootKey → TabKey → Answer
due_page setting root tab = settled setting.facts None (visit_answer setting.facts setting) (check_tab setting.facts setting.moment root tab)
