-- When a tab is answered that its login is complete.
use Rattle.std.proofs.Common.{◌≡◌, ℕ, Bool, true, false, List, [], ◌∷◌, Some, None, refl, sym, ap, subst, ◌∙◌}
use Rattle.std.specs.Prelude.{Option, Ok, if◌then◌else◌, ◌↔◌}
use Rattle.std.proofs.lemmas.Option.{same_Some}
use Rattle.login_base.specs.declared.id.RootKey.{RootKey}
use Rattle.login_base.specs.declared.id.TabKey.{TabKey}
use Rattle.login_base.specs.declared.id.UserId.{UserId}
use Rattle.flow_tree.specs.declared.exec.Exec.{Exec}
use Rattle.flow_tree.specs.Flow.{flow_holds, flow_needs}
use Rattle.realm_data.specs.declared.action.Action.{Action}
use Rattle.realm_data.specs.declared.realm_parts.RealmParts.{RealmParts}
use Rattle.asks.specs.declared.ask.NewTab.{NewTab}
use Rattle.facts.specs.declared.fact.Fact.{Fact}
use Rattle.asks.specs.declared.reply.Need.{Need}
use Rattle.facts.specs.declared.tabs.Opening.{Opening}
use Rattle.facts.specs.Actions.{first_pending}
use Rattle.facts.specs.Realms.{realm_of}
use Rattle.facts.specs.Tabs.{tab_state, tab_is_live, live_session, who_of}
use Rattle.hall_answers.specs.declared.refusal.Refusal.TheVariants as refusals
use Rattle.hall_answers.specs.Setting.{Setting}
use Rattle.flow_truths.specs.Granted.{is_granted, levels_reached}
use Rattle.realm_data.specs.Realm.{is_realm}
use Rattle.login_progress.specs.declared.login.Login.{Login}
use Rattle.login_progress.specs.declared.known_tab.KnownTab.{KnownTab}
use Rattle.login_progress.specs.declared.progress.Progress.{Progress}
use Rattle.login_progress.specs.declared.progress.Progress.TheVariants as progresses
use Rattle.login_progress.specs.Asked.{asked_of, blocked, first_denied, first_not_configured, denied_or, not_configured}
use Rattle.login_progress.specs.Login.{login_in, truths_in, is_granted_in}
use Rattle.login_progress.specs.Progress.{asked_or, lacking, unless_pending, holding, progress_in, progress_under, progress_of}
use Rattle.root_asks.specs.NewTab.{check_new_tab, new_tab_answer, due_new_tab, facts_opened, opening_at}
use Rattle.tab_pages.specs.Pages.{completion, progress_answer, tab_answer, tab_answer_then, visit_answer, due_page}
use Rattle.tab_pages.specs.Visit.{check_tab, check_known, check_whole, check_unfinished, check_account, check_visit, user_of, same_user}
use Rattle.hall_laws.specs.Ready.{IsReady, IsReadyAtOpening, known_at, done_for}
use Rattle.hall_laws.proofs.Gates.{first_passed, test_failed, whole_is, is_whole, open_is, is_open, settled_done}
use Rattle.hall_laws.proofs.TabLives.{shown, lives, opened_lives}
use Rattle.hall_laws.proofs.TabStates.{opened_state}

-- ---- the user whom a progress lets in

abbrev pub ready_user : Progress → Option UserId
ready_user (progresses.Ready user levels) = Some user
ready_user (progresses.Asked asked) = None
ready_user (progresses.Denied execution) = None
ready_user (progresses.NotConfigured execution) = None
ready_user progresses.DeadEnd = None
ready_user (progresses.LevelMissed level) = None
ready_user (progresses.Required user action) = None

progress_done : (facts : List Fact) (setting : Setting) (known : KnownTab) (progress : Progress)
    → done_for (progress_answer facts setting known progress).reply.what ≡ ready_user progress
unfolding progress_answer completion
progress_done facts setting known (progresses.Ready user levels) = refl
progress_done facts setting known (progresses.Asked asked) = refl
progress_done facts setting known (progresses.Denied execution) = refl
progress_done facts setting known (progresses.NotConfigured execution) = refl
progress_done facts setting known progresses.DeadEnd = refl
progress_done facts setting known (progresses.LevelMissed level) = refl
progress_done facts setting known (progresses.Required user action) = refl

pub tab_done : (facts : List Fact) (setting : Setting) (known : KnownTab)
    → done_for (tab_answer facts setting known).reply.what ≡ ready_user (progress_of facts setting.moment known)
unfolding tab_answer
tab_done facts setting known = progress_done facts setting known (progress_of facts setting.moment known)

blocked_waits : (denied missing : Option (List ℕ)) → ready_user (denied_or denied (not_configured missing)) ≡ None
blocked_waits (Some id) missing = refl
blocked_waits None None = refl
blocked_waits None (Some id) = refl

asked_waits : (asked : List Need) (other : Progress) → ready_user other ≡ None → ready_user (asked_or asked other) ≡ None
asked_waits [] other h = h
asked_waits (need ∷ asked) other h = refl

lacking_waits : (login : Login) (tree : List Exec) (needs : List (List ℕ)) → ready_user (lacking login tree needs) ≡ None
unfolding blocked
lacking_waits login tree needs =
    let account = login.view.account in
    asked_waits (asked_of tree login needs) (blocked tree account needs) (blocked_waits (first_denied tree needs) (first_not_configured tree account needs))

-- the flow holds, the level is granted, nothing is pending, and the login is the user's
record Passes (holds granted : Bool) (pending : UserId → Option Action) (who : Option UserId) (user : UserId) : Type 0 where
  holds_so : holds ≡ true
  granted_so : granted ≡ true
  nothing_pending : pending user ≡ None
  is_theirs : who ≡ Some user

settled_passes : (pending : UserId → Option Action) (first : Option Action) (found user : UserId) (levels : List ℕ) → pending found ≡ first
    → ready_user (unless_pending first found levels) ≡ Some user → Passes true true pending (Some found) user
settled_passes pending None found user levels is h =
    record {
      holds_so = refl;
      granted_so = refl;
      nothing_pending = subst (λ (u : UserId). pending u ≡ None) (same_Some found user h) is;
      is_theirs = h;
    }
settled_passes pending (Some action) found user levels is h = absurd cc

granted_passes : (granted : Bool) (pending : UserId → Option Action) (found user : UserId) (levels : List ℕ) (level : ℕ)
    → ready_user (if granted then unless_pending (pending found) found levels else progresses.LevelMissed level) ≡ Some user
    → Passes true granted pending (Some found) user
granted_passes true pending found user levels level h = settled_passes pending (pending found) found user levels refl h
granted_passes false pending found user levels level h = absurd cc

abbrev pending_in : List Fact → UserId → Option Action
pending_in facts user = first_pending user facts

holds_passes : (holds : Bool) (facts : List Fact) (login : Login) (held : List (List ℕ)) (tree : List Exec) (who : Option UserId) (other : Progress) (user : UserId) → ready_user other ≡ None
    → ready_user (if holds then holding facts login held tree who else other) ≡ Some user → Passes holds (is_granted login.view held tree) (pending_in facts) who user
holds_passes true facts login held tree None other user waits h = absurd cc
holds_passes true facts login held tree (Some found) other user waits h =
    granted_passes (is_granted login.view held tree) (pending_in facts) found user (levels_reached held login.view.level tree) login.view.level h
holds_passes false facts login held tree who other user waits h = absurd cc

-- what lets a user in: the realm is known, the login is the user's, the flow holds, the level is granted, and nothing is
-- pending
pub record LetsIn (facts : List Fact) (moment : ℕ) (known : KnownTab) (who : Option UserId) (found : Option RealmParts) (user : UserId) : Type 0 where
  pub realm : RealmParts
  pub is_found : found ≡ Some realm
  pub is_theirs : who ≡ Some user
  pub holds : flow_holds (truths_in facts moment known (Some user) realm.flow) realm.flow ≡ true
  pub is_granted_so : is_granted_in facts moment known (Some user) realm.flow ≡ true
  pub nothing_pending : first_pending user facts ≡ None

-- how far the login of this user has come
abbrev pub under_realm : List Fact → ℕ → KnownTab → Option UserId → Option RealmParts → Progress
under_realm facts moment known who None = progresses.DeadEnd
under_realm facts moment known who (Some realm) = progress_in facts moment known who realm.flow

pub under_is : (facts : List Fact) (moment : ℕ) (known : KnownTab) (found : Option RealmParts)
    → progress_under facts moment known found ≡ under_realm facts moment known (who_of moment known.state) found
under_is facts moment known None = refl
under_is facts moment known (Some realm) = refl

in_who : (facts : List Fact) (moment : ℕ) (known : KnownTab) (who : Option UserId) (found : Option RealmParts) (user : UserId)
    → ready_user (under_realm facts moment known who found) ≡ Some user → LetsIn facts moment known who found user
unfolding progress_in
in_who facts moment known who None user h = absurd cc
in_who facts moment known who (Some realm) user h =
    let tree = realm.flow in
    let login = login_in facts moment known who tree in
    let held = truths_in facts moment known who tree in
    let passes = holds_passes (flow_holds held tree) facts login held tree who (lacking login tree (flow_needs held tree)) user (lacking_waits login tree (flow_needs held tree)) h in
    record {
      realm = realm;
      is_found = refl;
      is_theirs = passes.is_theirs;
      holds = subst (λ (w : Option UserId). flow_holds (truths_in facts moment known w tree) tree ≡ true) passes.is_theirs passes.holds_so;
      is_granted_so = subst (λ (w : Option UserId). is_granted_in facts moment known w tree ≡ true) passes.is_theirs passes.granted_so;
      nothing_pending = passes.nothing_pending;
    }

pub lets_in : (facts : List Fact) (moment : ℕ) (known : KnownTab) (user : UserId) → ready_user (progress_of facts moment known) ≡ Some user
    → LetsIn facts moment known (who_of moment known.state) (realm_of known.opening.version facts) user
unfolding progress_of
lets_in facts moment known user h =
    let found = realm_of known.opening.version facts in
    in_who facts moment known (who_of moment known.state) found user (sym (ap ready_user (under_is facts moment known found)) ∙ h)

in_flow : (facts : List Fact) (moment : ℕ) (known : KnownTab) (user : UserId) (realm : RealmParts)
    → flow_holds (truths_in facts moment known (Some user) realm.flow) realm.flow ≡ true → is_granted_in facts moment known (Some user) realm.flow ≡ true → first_pending user facts ≡ None
    → ready_user (progress_in facts moment known (Some user) realm.flow) ≡ Some user
unfolding progress_in
in_flow facts moment known user realm holds granted settled = rw (holds, granted, settled) refl

pub is_let_in : (facts : List Fact) (moment : ℕ) (known : KnownTab) (user : UserId) → LetsIn facts moment known (who_of moment known.state) (realm_of known.opening.version facts) user
    → ready_user (progress_of facts moment known) ≡ Some user
unfolding progress_of
is_let_in facts moment known user lets =
    ap ready_user (under_is facts moment known (realm_of known.opening.version facts))
    ∙ ap (λ (w : Option UserId). ready_user (under_realm facts moment known w (realm_of known.opening.version facts))) lets.is_theirs
    ∙ ap (λ (r : Option RealmParts). ready_user (under_realm facts moment known (Some user) r)) lets.is_found
    ∙ in_flow facts moment known user lets.realm lets.holds lets.is_granted_so lets.nothing_pending

-- ---- a tab that may go on

pub opening_is : (opening other : Opening) (found : Option Opening) → found ≡ Some opening → found ≡ Some other → other ≡ opening
opening_is opening other found h k = cc

pub visit_ready : (facts : List Fact) (setting : Setting) (root : RootKey) (tab : TabKey) (opening : Opening) (user : UserId)
    → (tab_state root tab facts).opening ≡ Some opening → tab_is_live setting.moment opening ≡ true
    → done_for (visit_answer facts setting (known_at root tab opening facts)).reply.what ≡ Some user → IsReady facts setting.moment root tab user
unfolding visit_answer check_visit check_whole
visit_ready facts setting root tab opening user is_opened live h =
    let state = tab_state root tab facts in
    let known = known_at root tab opening facts in
    let went = settled_done facts (Some tab) (tab_answer_then facts setting known) (check_visit facts setting.moment known) user h in
    let first = first_passed (check_whole setting.moment known) _ tt went.is_got in
    let second = first_passed (check_unfinished known) _ tt first.1 in
    let is : ready_user (progress_of facts setting.moment known) ≡ Some user = sym (tab_done facts setting known) ∙ went.done in
    let lets = lets_in facts setting.moment known user is in
    let opened = open_is facts setting.moment user (subst (λ (w : Option UserId). check_account facts setting.moment w ≡ Ok tt) lets.is_theirs second.1) in
    record {
      opening = opening;
      is_opened = is_opened;
      is_live = live;
      realm = lets.realm;
      is_realm = lets.is_found;
      is_unfinished = test_failed state.completed refusals.Finished second.0;
      is_whole = whole_is state.named (live_session setting.moment state) first.0;
      is_theirs = lets.is_theirs;
      is_unlocked = opened.unlocked;
      is_enabled = opened.enabled;
      holds = lets.holds;
      nothing_pending = lets.nothing_pending;
      is_granted = lets.is_granted_so;
    }

-- the progress of a tab in which a user is ready
pub ready_progress : (facts : List Fact) (moment : ℕ) (root : RootKey) (tab : TabKey) (opening : Opening) (user : UserId)
    → (tab_state root tab facts).opening ≡ Some opening → IsReady facts moment root tab user
    → ready_user (progress_of facts moment (known_at root tab opening facts)) ≡ Some user
ready_progress facts moment root tab opening user is_opened ready =
    let same = opening_is opening ready.opening (tab_state root tab facts).opening is_opened ready.is_opened in
    let lets : LetsIn facts moment (known_at root tab ready.opening facts) (who_of moment (tab_state root tab facts)) (realm_of ready.opening.version facts) user = record {
      realm = ready.realm;
      is_found = ready.is_realm;
      is_theirs = ready.is_theirs;
      holds = ready.holds;
      is_granted_so = ready.is_granted;
      nothing_pending = ready.nothing_pending;
    } in
    subst (λ (o : Opening). ready_user (progress_of facts moment (known_at root tab o facts)) ≡ Some user) same
    (is_let_in facts moment (known_at root tab ready.opening facts) user lets)

may_go : (facts : List Fact) (moment : ℕ) (root : RootKey) (tab : TabKey) (opening : Opening) (user : UserId) → IsReady facts moment root tab user
    → check_visit facts moment (known_at root tab opening facts) ≡ Ok tt
unfolding check_visit check_whole
may_go facts moment root tab opening user ready =
    let state = tab_state root tab facts in
    let whole : same_user state.named (user_of (live_session moment state)) ≡ Ok tt = is_whole state.named (live_session moment state) ready.is_whole in
    let theirs = is_open facts moment user (record { unlocked = ready.is_unlocked; enabled = ready.is_enabled }) in
    let opened = subst (λ (w : Option UserId). check_account facts moment w ≡ Ok tt) (sym ready.is_theirs) theirs in
    rw (whole, ready.is_unfinished) opened

pub ready_visit : (facts : List Fact) (setting : Setting) (root : RootKey) (tab : TabKey) (opening : Opening) (user : UserId)
    → (tab_state root tab facts).opening ≡ Some opening → IsReady facts setting.moment root tab user
    → done_for (visit_answer facts setting (known_at root tab opening facts)).reply.what ≡ Some user
unfolding visit_answer
ready_visit facts setting root tab opening user is_opened ready =
    let known = known_at root tab opening facts in
    rw (may_go facts setting.moment root tab opening user ready)
    (tab_done facts setting known ∙ ready_progress facts setting.moment root tab opening user is_opened ready)

-- ---- pages

page_ready : (setting : Setting) (root : RootKey) (tab : TabKey) (user : UserId) → done_for (due_page setting (Some root) tab).reply.what ≡ Some user
    → IsReady setting.facts setting.moment root tab user
unfolding due_page
page_ready setting root tab user h =
    let facts = setting.facts in
    let went = settled_done facts None (visit_answer facts setting) (check_tab facts setting.moment (Some root) tab) user h in
    let at = shown facts setting.moment root tab went.got went.is_got in
    visit_ready facts setting root tab at.opening user at.is_opened at.is_live
    (subst (λ (k : KnownTab). done_for (visit_answer facts setting k).reply.what ≡ Some user) (sym at.is) went.done)

ready_page : (setting : Setting) (root : RootKey) (tab : TabKey) (user : UserId) → IsReady setting.facts setting.moment root tab user
    → done_for (due_page setting (Some root) tab).reply.what ≡ Some user
unfolding due_page
ready_page setting root tab user ready =
    rw (lives setting.facts setting.moment root tab ready.opening ready.is_opened ready.is_live)
    (ready_visit setting.facts setting root tab ready.opening user ready.is_opened ready)

pub page_done : (setting : Setting) (root : RootKey) (tab : TabKey) (user : UserId)
    → done_for (due_page setting (Some root) tab).reply.what ≡ Some user ↔ IsReady setting.facts setting.moment root tab user
page_done setting root tab user = (λ h. page_ready setting root tab user h, λ ready. ready_page setting root tab user ready)

pub rootless_page : (setting : Setting) (tab : TabKey) → done_for (due_page setting None tab).reply.what ≡ None
unfolding due_page check_tab check_known
rootless_page setting tab = refl

-- ---- opens

open_ready : (setting : Setting) (new : NewTab) (user : UserId) → is_realm setting.realm ≡ true → done_for (due_new_tab setting new).reply.what ≡ Some user → IsReadyAtOpening setting new user
unfolding due_new_tab new_tab_answer
open_ready setting new user sound h =
    let went = settled_done setting.facts None (new_tab_answer setting) (check_new_tab setting new) user h in
    let place = went.got in
    record {
      place = place;
      is_place = went.is_got;
      ready =
          visit_ready (facts_opened setting place) setting place.root place.tab (opening_at setting place) user (opened_state setting place) (opened_lives setting place sound) went.done;
    }

ready_open : (setting : Setting) (new : NewTab) (user : UserId) → IsReadyAtOpening setting new user → done_for (due_new_tab setting new).reply.what ≡ Some user
unfolding due_new_tab new_tab_answer
ready_open setting new user at =
    let place = at.place in
    rw at.is_place (ready_visit (facts_opened setting place) setting place.root place.tab (opening_at setting place) user (opened_state setting place) at.ready)

pub open_done : (setting : Setting) (new : NewTab) (user : UserId) → is_realm setting.realm ≡ true
    → done_for (due_new_tab setting new).reply.what ≡ Some user ↔ IsReadyAtOpening setting new user
open_done setting new user sound = (λ h. open_ready setting new user sound h, λ at. ready_open setting new user at)
