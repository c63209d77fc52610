-- When a post is answered that its login is complete.
use Rattle.std.proofs.Common.{◌≡◌, ℕ, true, false, List, Some, None, refl, sym, ap, subst, ◌∙◌}
use Rattle.std.specs.Prelude.{Option, Result, Ok, ◌↔◌}
use Rattle.login_base.specs.declared.id.UserId.{UserId}
use Rattle.asks.specs.declared.ask.Form.{Form}
use Rattle.asks.specs.declared.ask.Form.TheVariants as forms
use Rattle.asks.specs.declared.ask.Post.{Post}
use Rattle.facts.specs.declared.fact.Fact.{Fact}
use Rattle.asks.specs.declared.finding.Finding.{Finding}
use Rattle.asks.specs.declared.finding.Finding.TheVariants as findings
use Rattle.asks.specs.declared.reply.Need.{Need}
use Rattle.facts.specs.declared.tabs.TabState.{TabState}
use Rattle.facts.specs.declared.user_password.UserPassword.{UserPassword}
use Rattle.facts.specs.Accounts.{account_named}
use Rattle.facts.specs.Tabs.{tab_state, shown_code, live_session, who_of}
use Rattle.hall_answers.specs.declared.refusal.Refusal.{Refusal}
use Rattle.hall_answers.specs.declared.refusal.Refusal.TheVariants as refusals
use Rattle.hall_answers.specs.Setting.{Setting}
use Rattle.account_states.specs.declared.state.AccountState.{AccountState}
use Rattle.account_states.specs.States.{is_closed_in}
use Rattle.lockout.specs.Standing.{is_locked}
use Rattle.login_progress.specs.declared.known_tab.KnownTab.{KnownTab}
use Rattle.login_progress.specs.PasswordFor.{password_for}
use Rattle.login_progress.specs.declared.progress.Progress.{Progress}
use Rattle.login_progress.specs.Progress.{progress_of, asked_in}
use Rattle.tab_asks.specs.declared.check.Check.{Check}
use Rattle.tab_asks.specs.declared.check.Check.TheVariants as checks
use Rattle.tab_asks.specs.declared.check.Credential.{Credential}
use Rattle.tab_asks.specs.Forms.{named_by, target_of, concerned}
use Rattle.tab_asks.specs.Post.{is_code, check_code, check_user, check_post, is_asked, check_asked, check_credential, check_form, password_check, name_check, check_with, check_of, known_over, answer_to_accepted, answer_to_check, post_where, post_by, post_in, due_post}
use Rattle.tab_pages.specs.Visit.{check_tab, check_whole, check_unfinished, check_account, user_of, same_user}
use Rattle.hall_laws.specs.Ready.{IsReady, IsAccepted, IsReadyAfterPost, facts_accepted, progress_at, done_for}
use Rattle.hall_laws.proofs.Gates.{first_passed, test_passed, test_failed, whole_is, open_is, same_either, concerned_is, settled_done}
use Rattle.hall_laws.proofs.Readiness.{lets_in, ready_user, tab_done, ready_progress}
use Rattle.hall_laws.proofs.TabLives.{IsKnown, tab_known}
use Rattle.hall_laws.proofs.TabStates.{named_as, with_name, accepted_state, account_kept}

-- ---- what an accepted post passed

-- what check_post found
pub record Current (facts : List Fact) (moment : ℕ) (known : KnownTab) (post : Post) (named : Option UserId) : Type 0 where
  pub code_shown : is_code post.code (shown_code known.state) ≡ true
  pub whole : same_user known.state.named (user_of (live_session moment known.state)) ≡ Ok tt
  pub same : same_user (named_by facts post.form) (user_of (live_session moment known.state)) ≡ Ok tt
  pub unfinished : known.state.completed ≡ false
  pub is_named : named_by facts post.form ≡ named

pub is_current : (facts : List Fact) (moment : ℕ) (known : KnownTab) (post : Post) (named : Option UserId)
    → check_post facts moment known post ≡ Ok named → Current facts moment known post named
unfolding check_post check_whole
is_current facts moment known post named h =
    let first = first_passed (check_code known post.code) _ named h in
    let second = first_passed (check_whole moment known) _ named first.1 in
    let third = first_passed (check_user moment known (named_by facts post.form)) _ named second.1 in
    let fourth = first_passed (check_unfinished known) _ named third.1 in
    let last : ◌≡◌ {A = Result (Option UserId) Refusal} (Ok (named_by facts post.form)) (Ok named) = fourth.1 in
    record {
      code_shown = test_passed (is_code post.code (shown_code known.state)) (refusals.Stale (shown_code known.state)) first.0;
      whole = second.0;
      same = third.0;
      unfinished = test_failed known.state.completed refusals.Finished fourth.0;
      is_named = cc;
    }

-- what check_form found
pub record Fitting (setting : Setting) (known : KnownTab) (progress : Progress) (named : Option UserId) (form : Form) (finding : Finding) (check : Check) : Type 0 where
  pub form_asked : is_asked progress known.state.page form ≡ true
  pub account : check_account setting.facts setting.moment (concerned named (who_of setting.moment known.state)) ≡ Ok tt
  pub is_check :
      check_with setting known (asked_in progress) named (who_of setting.moment known.state) (password_for setting.facts (target_of named (who_of setting.moment known.state) form)) form finding ≡ check

pub is_fitting : (setting : Setting) (known : KnownTab) (progress : Progress) (named : Option UserId) (form : Form) (finding : Finding) (check : Check)
    → check_form setting known progress named form finding ≡ Ok check → Fitting setting known progress named form finding check
unfolding check_form
is_fitting setting known progress named form finding check h =
    let who = who_of setting.moment known.state in
    let asked = asked_in progress in
    let password = password_for setting.facts (target_of named who form) in
    let first = first_passed (check_asked progress known.state.page form) _ check h in
    let second = first_passed (check_account setting.facts setting.moment (concerned named who)) _ check first.1 in
    let third = first_passed (check_credential password finding) _ check second.1 in
    let last : ◌≡◌ {A = Result Check Refusal} (Ok (check_of setting known asked named password form finding)) (Ok check) = third.1 in
    record {
      form_asked = test_passed (is_asked progress known.state.page form) refusals.NotAsked first.0;
      account = second.0;
      is_check = cc;
    }

pub name_fits : (named : Option UserId) (user : UserId) (credential : Credential) → name_check named ≡ checks.Fits user credential → named ≡ Some user
name_fits (Some other) user credential h = cc
name_fits None user credential h = absurd cc

pub password_fits : (target : Option UserId) (password : Option UserPassword) (finding : Finding) (user : UserId) (credential : Credential)
    → password_check target password finding ≡ checks.Fits user credential → target ≡ Some user
unfolding password_check
password_fits None password finding user credential h = absurd cc
password_fits (Some other) None finding user credential h = absurd cc
password_fits (Some other) (Some kept) (findings.Checked had true) user credential h = cc
password_fits (Some other) (Some kept) (findings.Checked had false) user credential h = absurd cc
password_fits (Some other) (Some kept) finding user credential h = absurd cc

-- a form that names a user names the one whom its check fits
fits_named : (setting : Setting) (known : KnownTab) (asked : List Need) (who : Option UserId) (password : Option UserPassword) (form : Form) (finding : Finding) (user : UserId) (credential : Credential)
    → check_with setting known asked (named_by setting.facts form) who password form finding ≡ checks.Fits user credential → named_by setting.facts form ≡ named_as user form
fits_named setting known asked who password (forms.Username execution name) finding user credential h = name_fits (account_named name setting.facts) user credential h
fits_named setting known asked who password (forms.NamePassword execution name given) finding user credential h = password_fits (account_named name setting.facts) password finding user credential h
fits_named setting known asked who password (forms.Password execution given) finding user credential h = refl
fits_named setting known asked who password (forms.Value execution value) finding user credential h = refl
fits_named setting known asked who password forms.Terms finding user credential h = refl
fits_named setting known asked who password (forms.UpdatePassword given) finding user credential h = refl
fits_named setting known asked who password (forms.ConfigureOtp value) finding user credential h = refl
fits_named setting known asked who password forms.RecoveryCodes finding user credential h = refl
fits_named setting known asked who password forms.VerifyEmail finding user credential h = refl

-- ---- the tab behind the evidence

-- the tab after an accepted post: as before, but for whom the form names, who passed the same checks
pub record Behind (setting : Setting) (post : Post) (finding : Finding) (accepted : IsAccepted setting post finding) : Type 0 where
  pub known : IsKnown setting.facts setting.moment post.root post.tab accepted.known
  pub current : Current setting.facts setting.moment accepted.known post accepted.named
  pub fitting : Fitting setting accepted.known (progress_at setting accepted.known) accepted.named post.form finding (checks.Fits accepted.user accepted.credential)
  pub is_state : tab_state accepted.known.root accepted.known.tab (facts_accepted setting post finding accepted) ≡ with_name accepted.known.state accepted.named

pub behind : (setting : Setting) (post : Post) (finding : Finding) (accepted : IsAccepted setting post finding) → Behind setting post finding accepted
behind setting post finding accepted =
    let known = accepted.known in
    let facts = setting.facts in
    let progress = progress_at setting known in
    let is_known = tab_known facts setting.moment post.root post.tab known accepted.is_known in
    let current = is_current facts setting.moment known post accepted.named accepted.is_named in
    let fitting = is_fitting setting known progress accepted.named post.form finding (checks.Fits accepted.user accepted.credential) accepted.fits in
    let who = who_of setting.moment known.state in
    let check = subst (λ (n : Option UserId). check_with setting known (asked_in progress) n who (password_for facts (target_of n who post.form)) post.form finding ≡ checks.Fits accepted.user accepted.credential)
    (sym current.is_named) fitting.is_check in
    let named = fits_named setting known (asked_in progress) who (password_for facts (target_of (named_by facts post.form) who post.form)) post.form finding accepted.user accepted.credential check in
    record {
      known = is_known;
      current = current;
      fitting = fitting;
      is_state =
          accepted_state setting known post.form finding accepted.user accepted.credential known.root
          ∙ ap (λ (s : TabState). with_name s (named_as accepted.user post.form)) (sym is_known.is_state)
          ∙ ap (with_name known.state) (sym named ∙ current.is_named);
    }

abbrev pub known_accepted : (setting : Setting) (post : Post) (finding : Finding) → IsAccepted setting post finding → KnownTab
known_accepted setting post finding accepted = known_over accepted.known (facts_accepted setting post finding accepted)

pub opened_behind : (setting : Setting) (post : Post) (finding : Finding) (accepted : IsAccepted setting post finding)
    → (tab_state accepted.known.root accepted.known.tab (facts_accepted setting post finding accepted)).opening ≡ Some accepted.known.opening
opened_behind setting post finding accepted =
    let b = behind setting post finding accepted in
    ap (λ (s : TabState). s.opening) b.is_state ∙ ap (λ (s : TabState). s.opening) b.known.is_state ∙ b.known.is_opened

-- it isn't split either
pub whole_behind : (setting : Setting) (post : Post) (finding : Finding) (accepted : IsAccepted setting post finding)
    → same_user (known_accepted setting post finding accepted).state.named (user_of (live_session setting.moment (known_accepted setting post finding accepted).state)) ≡ Ok tt
whole_behind setting post finding accepted =
    let b = behind setting post finding accepted in
    let live = live_session setting.moment accepted.known.state in
    let same = subst (λ (n : Option UserId). same_user n (user_of live) ≡ Ok tt) b.current.is_named b.current.same in
    let either = same_either accepted.named accepted.known.state.named (user_of live) same b.current.whole in
    subst (λ (s : TabState). same_user s.named (user_of (live_session setting.moment s)) ≡ Ok tt) (sym b.is_state) either

-- a user whom the progress lets in is ready
pub progress_ready : (setting : Setting) (post : Post) (finding : Finding) (accepted : IsAccepted setting post finding) (user : UserId)
    → ready_user (progress_of (facts_accepted setting post finding accepted) setting.moment (known_accepted setting post finding accepted)) ≡ Some user
    → IsReady (facts_accepted setting post finding accepted) setting.moment accepted.known.root accepted.known.tab user
progress_ready setting post finding accepted user h =
    let b = behind setting post finding accepted in
    let known = accepted.known in
    let named = accepted.named in
    let facts = setting.facts in
    let more = facts_accepted setting post finding accepted in
    let now = tab_state known.root known.tab more in
    let live = live_session setting.moment known.state in
    let lets = lets_in more setting.moment (known_over known more) user h in
    let same = subst (λ (n : Option UserId). same_user n (user_of live) ≡ Ok tt) b.current.is_named b.current.same in
    let who = concerned_is named known.state.named live same ∙ sym (ap (who_of setting.moment) b.is_state) ∙ lets.is_theirs in
    let opened = open_is facts setting.moment user (subst (λ (w : Option UserId). check_account facts setting.moment w ≡ Ok tt) who b.fitting.account) in
    let kept = account_kept setting known post.form finding accepted.user accepted.credential user in
    record {
      opening = known.opening;
      is_opened = opened_behind setting post finding accepted;
      is_live = b.known.is_live;
      realm = lets.realm;
      is_realm = lets.is_found;
      is_unfinished = ap (λ (s : TabState). s.completed) b.is_state ∙ b.current.unfinished;
      is_whole = whole_is now.named (live_session setting.moment now) (whole_behind setting post finding accepted);
      is_theirs = lets.is_theirs;
      is_unlocked = ap (λ (s : AccountState). is_locked s.standing setting.moment) kept ∙ opened.unlocked;
      is_enabled = ap is_closed_in kept ∙ opened.enabled;
      holds = lets.holds;
      nothing_pending = lets.nothing_pending;
      is_granted = lets.is_granted_so;
    }

-- ---- posts

-- the post is accepted, and this is what its tab is answered
pub record Answered (setting : Setting) (post : Post) (finding : Finding) (user : UserId) : Type 0 where
  pub accepted : IsAccepted setting post finding
  pub done : ready_user (progress_of (facts_accepted setting post finding accepted) setting.moment (known_accepted setting post finding accepted)) ≡ Some user

check_answered : (setting : Setting) (post : Post) (finding : Finding) (user : UserId) (known : KnownTab) (named : Option UserId) (check : Check)
    → check_tab setting.facts setting.moment post.root post.tab ≡ Ok known
    → check_post setting.facts setting.moment known post ≡ Ok named
    → check_form setting known (progress_at setting known) named post.form finding ≡ Ok check
    → done_for (answer_to_check setting known (progress_at setting known) post.form finding check).reply.what ≡ Some user
    → Answered setting post finding user
unfolding answer_to_check answer_to_accepted
check_answered setting post finding user known named (checks.Fits fit credential) is_known is_named fits h =
    let accepted : IsAccepted setting post finding = record {
      known = known;
      is_known = is_known;
      named = named;
      is_named = is_named;
      user = fit;
      credential = credential;
      fits = fits;
    } in
    let more = facts_accepted setting post finding accepted in
    record { accepted = accepted; done = sym (tab_done more setting (known_over known more)) ∙ h }
check_answered setting post finding user known named (checks.Wrong wrong) is_known is_named fits h = absurd cc
check_answered setting post finding user known named (checks.WrongCode wrong) is_known is_named fits h = absurd cc
check_answered setting post finding user known named (checks.SpentCode step) is_known is_named fits h = absurd cc

pub answered : (setting : Setting) (post : Post) (finding : Finding) (user : UserId) → done_for (due_post setting post finding).reply.what ≡ Some user
    → Answered setting post finding user
unfolding due_post post_in post_where
answered setting post finding user h =
    let facts = setting.facts in
    let first = settled_done facts None (post_in setting post finding) (check_tab facts setting.moment post.root post.tab) user h in
    let known = first.got in
    let second = settled_done facts (Some known.tab) (post_by setting post.form finding known) (check_post facts setting.moment known post) user first.done in
    let progress = progress_at setting known in
    let third = settled_done facts (Some known.tab) (answer_to_check setting known progress post.form finding) (check_form setting known progress second.got post.form finding) user second.done in
    check_answered setting post finding user known second.got third.got first.is_got second.is_got third.is_got third.done

-- what an accepted post is due
pub accepted_due : (setting : Setting) (post : Post) (finding : Finding) (accepted : IsAccepted setting post finding)
    → due_post setting post finding ≡ answer_to_accepted setting accepted.known post.form finding accepted.user accepted.credential
unfolding due_post post_in post_where answer_to_check
accepted_due setting post finding accepted = rw (accepted.is_known, accepted.is_named, accepted.fits) refl

post_ready : (setting : Setting) (post : Post) (finding : Finding) (user : UserId) → done_for (due_post setting post finding).reply.what ≡ Some user
    → IsReadyAfterPost setting post finding user
post_ready setting post finding user h =
    let a = answered setting post finding user h in
    record { accepted = a.accepted; ready = progress_ready setting post finding a.accepted user a.done }

accepted_answer : (setting : Setting) (post : Post) (finding : Finding) (accepted : IsAccepted setting post finding)
    → done_for (answer_to_accepted setting accepted.known post.form finding accepted.user accepted.credential).reply.what
    ≡ ready_user (progress_of (facts_accepted setting post finding accepted) setting.moment (known_accepted setting post finding accepted))
unfolding answer_to_accepted
accepted_answer setting post finding accepted =
    tab_done (facts_accepted setting post finding accepted) setting (known_accepted setting post finding accepted)

ready_post : (setting : Setting) (post : Post) (finding : Finding) (user : UserId) → IsReadyAfterPost setting post finding user
    → done_for (due_post setting post finding).reply.what ≡ Some user
ready_post setting post finding user after =
    let accepted = after.accepted in
    let more = facts_accepted setting post finding accepted in
    rw (accepted_due setting post finding accepted)
    (accepted_answer setting post finding accepted
    ∙ ready_progress more setting.moment accepted.known.root accepted.known.tab accepted.known.opening user (opened_behind setting post finding accepted) after.ready)

pub post_done : (setting : Setting) (post : Post) (finding : Finding) (user : UserId)
    → done_for (due_post setting post finding).reply.what ≡ Some user ↔ IsReadyAfterPost setting post finding user
post_done setting post finding user = (λ h. post_ready setting post finding user h, λ after. ready_post setting post finding user after)
