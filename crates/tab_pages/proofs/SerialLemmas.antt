-- How far the answers of tabs lift the counters.
use Rattle.std.proofs.Common.{◌≡◌, ℕ, List, [], ◌∷◌, ◌++◌, Option, Some, None, refl, arith}
use Rattle.std.specs.Prelude.{Result, Ok, Err, fold}
use Rattle.login_base.specs.declared.id.RootKey.{RootKey}
use Rattle.login_base.specs.declared.id.SessionId.{SessionId}
use Rattle.login_base.specs.declared.id.TabKey.{TabKey}
use Rattle.login_base.specs.declared.id.UserId.{UserId}
use Rattle.facts.specs.declared.fact.Fact.{Fact}
use Rattle.facts.specs.declared.fact.Fact.TheVariants as events
use Rattle.facts.specs.declared.tabs.RootSession.{RootSession}
use Rattle.facts.specs.Realms.{last_version, version_after}
use Rattle.facts.specs.Serials.{last_tab_serial, last_stored_serial, tab_serial_after, stored_serial_after}
use Rattle.facts.specs.Tabs.{live_session}
use Rattle.hall_answers.specs.declared.refusal.Refusal.{Refusal}
use Rattle.hall_answers.specs.Refusals.{settled}
use Rattle.hall_answers.specs.Setting.{Setting}
use Rattle.hall_answers.proofs.Lifts.{Lifts, lifts, nothing, both}
use Rattle.login_progress.specs.declared.known_tab.KnownTab.{KnownTab}
use Rattle.login_progress.specs.declared.progress.Progress.{Progress}
use Rattle.login_progress.specs.declared.progress.Progress.TheVariants as progresses
use Rattle.login_progress.specs.Progress.{progress_of}
use Rattle.tab_pages.specs.Pages.{session_for, beginning, levels_recorded, seen_now, completion, progress_answer, tab_answer, tab_answer_then, visit_answer, due_page}
use Rattle.tab_pages.specs.Visit.{check_tab, check_visit}

-- ---- what a tab is answered

-- levels are recorded without a serial
tabs_recorded : (n : ℕ) (setting : Setting) (session : SessionId) (levels : List ℕ) → fold tab_serial_after n (levels_recorded setting session levels) ≡ n
tabs_recorded n setting session [] = refl
tabs_recorded n setting session (level ∷ levels) = tabs_recorded n setting session levels

stored_recorded : (n : ℕ) (setting : Setting) (session : SessionId) (levels : List ℕ) → fold stored_serial_after n (levels_recorded setting session levels) ≡ n
stored_recorded n setting session [] = refl
stored_recorded n setting session (level ∷ levels) = stored_recorded n setting session levels

version_recorded : (n : ℕ) (setting : Setting) (session : SessionId) (levels : List ℕ) → fold version_after n (levels_recorded setting session levels) ≡ n
version_recorded n setting session [] = refl
version_recorded n setting session (level ∷ levels) = version_recorded n setting session levels

levels_lift : (old : List Fact) (setting : Setting) (session : SessionId) (levels : List ℕ) → Lifts 0 old (levels_recorded setting session levels)
levels_lift old setting session levels =
    let t = tabs_recorded (last_tab_serial old) setting session levels in
    let s = stored_recorded (last_stored_serial old) setting session levels in
    lifts 0 old _ (omega (arith, t)) (omega (arith, s)) (version_recorded (last_version old) setting session levels)

seen_lifts : (old : List Fact) (setting : Setting) (live : Option RootSession) → Lifts 0 old (seen_now setting live)
seen_lifts old setting None = nothing 0 old
seen_lifts old setting (Some own) = lifts 0 old _ (omega arith) (omega arith) refl

beginning_lifts : (old : List Fact) (setting : Setting) (root : RootKey) (user : UserId) (live : Option RootSession)
    → Lifts 1 old (beginning setting (session_for old setting.draws live) root user live)
beginning_lifts old setting root user None = lifts 1 old _ (omega arith) (omega arith) refl
beginning_lifts old setting root user (Some own) = nothing 1 old

completed_lifts : (old : List Fact) (known : KnownTab) (user : UserId) (session : SessionId) (moment : ℕ) → Lifts 0 old (events.Completed known.tab user session moment ∷ [])
completed_lifts old known user session moment = lifts 0 old _ (omega arith) (omega arith) refl

completion_lifts : (old : List Fact) (setting : Setting) (known : KnownTab) (user : UserId) (levels : List ℕ) → Lifts 1 old (completion old setting known user levels).added
unfolding completion
completion_lifts old setting known user levels =
    let live = live_session setting.moment known.state in
    let session = session_for old setting.draws live in
    let begun = beginning setting session known.root user live in
    let recorded = levels_recorded setting session levels in
    let first = both 1 0 old begun recorded (beginning_lifts old setting known.root user live) (levels_lift (old ++ begun) setting session levels) in
    let second = both 1 0 old (begun ++ recorded) (seen_now setting live) first (seen_lifts (old ++ (begun ++ recorded)) setting live) in
    both 1 0 old (begun ++ recorded ++ seen_now setting live) _ second (completed_lifts _ known user session setting.moment)

progress_lifts : (old : List Fact) (setting : Setting) (known : KnownTab) (progress : Progress) → Lifts 1 old (progress_answer old setting known progress).added
unfolding progress_answer
progress_lifts old setting known (progresses.Ready user levels) = completion_lifts old setting known user levels
progress_lifts old setting known (progresses.Asked asked) = lifts 1 old _ (omega arith) (omega arith) refl
progress_lifts old setting known (progresses.Denied execution) = nothing 1 old
progress_lifts old setting known (progresses.NotConfigured execution) = nothing 1 old
progress_lifts old setting known progresses.DeadEnd = nothing 1 old
progress_lifts old setting known (progresses.LevelMissed level) = nothing 1 old
progress_lifts old setting known (progresses.Required user action) = lifts 1 old _ (omega arith) (omega arith) refl

pub tab_lifts : (old : List Fact) (setting : Setting) (known : KnownTab) → Lifts 1 old (tab_answer old setting known).added
unfolding tab_answer
tab_lifts old setting known = progress_lifts old setting known (progress_of old setting.moment known)

may_lifts : (old : List Fact) (setting : Setting) (known : KnownTab) (may : Result (Unit {0}) Refusal) → Lifts 1 old (settled old (Some known.tab) (tab_answer_then old setting known) may).added
may_lifts old setting known (Ok x) = tab_lifts old setting known
may_lifts old setting known (Err refusal) = nothing 1 old

pub visit_lifts : (old : List Fact) (setting : Setting) (known : KnownTab) → Lifts 1 old (visit_answer old setting known).added
unfolding visit_answer
visit_lifts old setting known = may_lifts old setting known (check_visit old setting.moment known)

-- ---- pages

shown_lifts : (setting : Setting) (known : Result KnownTab Refusal) → Lifts 1 setting.facts (settled setting.facts None (visit_answer setting.facts setting) known).added
shown_lifts setting (Ok known) = visit_lifts setting.facts setting known
shown_lifts setting (Err refusal) = nothing 1 setting.facts

pub page_lifts : (setting : Setting) (root : Option RootKey) (tab : TabKey) → Lifts 1 setting.facts (due_page setting root tab).added
unfolding due_page
page_lifts setting root tab = shown_lifts setting (check_tab setting.facts setting.moment root tab)
