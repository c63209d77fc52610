-- What a post is due.
use Rattle.std.specs.Prelude.{ℕ, Bool, true, false, ◌||◌, ◌==◌, List, [], ◌∷◌, ◌++◌, Option, Some, None, Result, Ok, Err, if◌then◌else◌}
use Rattle.std.specs.List.{list_any}
use Rattle.login_base.specs.IdText.{same_id}
use Rattle.login_base.specs.declared.id.Code.{Code}
use Rattle.login_base.specs.declared.id.UserId.{UserId}
use Rattle.realm_data.specs.declared.action.Action.{Action}
use Rattle.asks.specs.declared.ask.Form.{Form}
use Rattle.asks.specs.declared.ask.Form.TheVariants as forms
use Rattle.asks.specs.declared.ask.Post.{Post}
use Rattle.facts.specs.declared.fact.Fact.{Fact}
use Rattle.facts.specs.declared.fact.Fact.TheVariants as events
use Rattle.asks.specs.declared.finding.Finding.{Finding}
use Rattle.asks.specs.declared.finding.Finding.TheVariants as findings
use Rattle.facts.specs.declared.user_password.UserPassword.{UserPassword}
use Rattle.asks.specs.declared.reply.Need.{Need}
use Rattle.asks.specs.declared.reply.Next.{Next}
use Rattle.asks.specs.declared.reply.Next.TheVariants as nexts
use Rattle.asks.specs.declared.reply.What.TheVariants as whats
use Rattle.facts.specs.declared.tabs.Page.{Page}
use Rattle.facts.specs.Tabs.{shown_code, live_session, who_of, tab_state}
use Rattle.hall_answers.specs.declared.answer.Answer.{Answer}
use Rattle.hall_answers.specs.declared.refusal.Refusal.{Refusal}
use Rattle.hall_answers.specs.declared.refusal.Refusal.TheVariants.{Stale, NotAsked, CredentialMoved}
use Rattle.hall_answers.specs.Answers.{answer_in, after_facts}
use Rattle.hall_answers.specs.Ids.{next_code}
use Rattle.hall_answers.specs.Refusals.{◌>>=◌, settled}
use Rattle.hall_answers.specs.Setting.{Setting}
use Rattle.login_progress.specs.declared.known_tab.KnownTab.{KnownTab}
use Rattle.login_progress.specs.PasswordFor.{password_for}
use Rattle.login_progress.specs.declared.progress.Progress.{Progress}
use Rattle.login_progress.specs.declared.progress.Progress.TheVariants as progresses
use Rattle.login_progress.specs.Progress.{progress_of, asked_in, action_in}
use Rattle.tab_asks.specs.declared.check.Check.{Check}
use Rattle.tab_asks.specs.declared.check.Credential.{Credential}
use Rattle.tab_asks.specs.declared.check.Spent.TheVariants as spends
use Rattle.tab_asks.specs.declared.check.Check.TheVariants as checks
use Rattle.tab_asks.specs.Codes.{code_check}
use Rattle.tab_asks.specs.Forms.{named_by, target_of, concerned, is_of, evidence_of}
use Rattle.tab_asks.specs.Deeds.{does_asked, deed_check, setup_check, deed_facts}
use Rattle.tab_pages.specs.Offering.{no_offer, offer_for, shown_in}
use Rattle.tab_pages.specs.Pages.{page_fact, tab_answer}
use Rattle.tab_pages.specs.Visit.{check_tab, check_account, check_whole, same_user, check_unfinished, user_of}

-- ---- refusals, in their order

abbrev pub is_code : Code → Option Code → Bool
is_code code None = false
is_code code (Some shown) = same_id shown.0 code.0

-- the code is the one that was shown last
abbrev pub check_code : KnownTab → Code → Result (Unit {0}) Refusal
check_code known code = if is_code code (shown_code known.state) then Ok tt else Err (Stale (shown_code known.state))

-- the existing user whom the form names is the one of the live session
abbrev pub check_user : ℕ → KnownTab → Option UserId → Result (Unit {0}) Refusal
check_user moment known named = same_user named (user_of (live_session moment known.state))

-- what may refuse a post before it is asked what its tab needs: else whom its form names
unfoldable pub check_post : List Fact → ℕ → KnownTab → Post → Result (Option UserId) Refusal
check_post facts moment known post = do
  current ← check_code known post.code
  whole ← check_whole moment known
  same ← check_user moment known (named_by facts post.form)
  unfinished ← check_unfinished known
  Ok (named_by facts post.form)

abbrev pub has_need : List Need → Form → Bool
has_need asked form = list_any (λ (need : Need). is_of need form) asked

-- the form is one of an execution that is asked, or does the action that is
abbrev pub is_asked : Progress → Option Page → Form → Bool
is_asked progress page form = has_need (asked_in progress) form || does_asked (action_in progress) page form

abbrev pub check_asked : Progress → Option Page → Form → Result (Unit {0}) Refusal
check_asked progress page form = if is_asked progress page form then Ok tt else Err NotAsked

abbrev pub serial_of : Option UserPassword → ℕ
serial_of None = 0
serial_of (Some kept) = kept.serial

abbrev pub had_by : Finding → ℕ
had_by (findings.Checked had fits) = had
had_by finding = 0

-- the password was checked against the one that the target has
unfoldable pub check_credential : Option UserPassword → Finding → Result (Unit {0}) Refusal
check_credential password finding = if had_by finding == serial_of password then Ok tt else Err (CredentialMoved (had_by finding) (serial_of password))

-- ---- the check

-- the user is there, has a password, and it fits
unfoldable pub password_check : Option UserId → Option UserPassword → Finding → Check
password_check (Some user) (Some kept) (findings.Checked had true) = checks.Fits user (record { serial = kept.serial; spent = spends.Nothing })
password_check user password finding = checks.Wrong user

-- a name alone has to be that of a user
abbrev pub name_check : Option UserId → Check
name_check (Some user) = checks.Fits user (record { serial = 0; spent = spends.Nothing })
name_check None = checks.Wrong None

-- by the form, where `named` is whom it names, and `who` the one whose login it is
abbrev pub check_with : Setting → KnownTab → List Need → Option UserId → Option UserId → Option UserPassword → Form → Finding → Check
check_with setting known asked named who password (forms.Username execution name) finding = name_check named
check_with setting known asked named who password (forms.Password execution given) finding = password_check who password finding
check_with setting known asked named who password (forms.NamePassword execution name given) finding = password_check named password finding
check_with setting known asked named who password (forms.Value execution value) finding = code_check setting asked who execution value
check_with setting known asked named who password forms.Terms finding = deed_check who
check_with setting known asked named who password (forms.UpdatePassword given) finding = deed_check who
check_with setting known asked named who password (forms.ConfigureOtp value) finding = setup_check setting known.state.page who value
check_with setting known asked named who password forms.RecoveryCodes finding = deed_check who
check_with setting known asked named who password forms.VerifyEmail finding = checks.Wrong None

abbrev pub check_of : Setting → KnownTab → List Need → Option UserId → Option UserPassword → Form → Finding → Check
check_of setting known asked named password form finding =
    check_with setting known asked named (who_of setting.moment known.state) password form finding

-- the check of a form that names this user, where the login has come so far, or the first refusal
unfoldable pub check_form : Setting → KnownTab → Progress → Option UserId → Form → Finding → Result Check Refusal
check_form setting known progress named form finding =
    let who = who_of setting.moment known.state in
    let password = password_for setting.facts (target_of named who form) in
    do
      fitting ← check_asked progress known.state.page form
      account ← check_account setting.facts setting.moment (concerned named who)
      kept ← check_credential password finding
      Ok (check_of setting known (asked_in progress) named password form finding)

-- ---- answers

-- the tab as it is known over these facts
abbrev pub known_over : KnownTab → List Fact → KnownTab
known_over known facts = record known { state = tab_state known.root known.tab facts }

-- the evidence that an accepted post gives
abbrev pub evidence_by : Setting → KnownTab → Form → UserId → Credential → List Fact
evidence_by setting known form user credential = evidence_of (record { tab = known.tab; user = user; credential = credential; moment = setting.moment }) form

-- what it adds: that evidence, or what its action does
abbrev pub accepted_facts : Setting → KnownTab → Form → Finding → UserId → Credential → List Fact
accepted_facts setting known form finding user credential =
    evidence_by setting known form user credential ++ deed_facts setting known form finding user credential.spent

-- it is added, and stays; then the tab is answered over it
unfoldable pub answer_to_accepted : Setting → KnownTab → Form → Finding → UserId → Credential → Answer
answer_to_accepted setting known form finding user credential =
    let accepted = accepted_facts setting known form finding user credential in
    let more = setting.facts ++ accepted in
    after_facts accepted (tab_answer more setting (known_over known more))

-- a failure counts where the user is there
abbrev pub failure_of : Option UserId → ℕ → List Fact
failure_of None moment = []
failure_of (Some user) moment = events.Failed user moment ∷ []

-- the action's page again, with a new code
abbrev pub next_action : Setting → KnownTab → Action → Next
next_action setting known action =
    nexts.Action (next_code setting.facts setting.draws) action (shown_in setting.facts known action (offer_for known.state.page action setting.draws))

-- the same page again, with a new code
abbrev pub next_page : Setting → KnownTab → Progress → Next
next_page setting known (progresses.Required user action) = next_action setting known action
next_page setting known progress = nexts.Form (next_code setting.facts setting.draws) (asked_in progress)

-- that it is shown again
abbrev pub page_again : Setting → KnownTab → Option Action → Fact
page_again setting known None = page_fact known.tab (next_code setting.facts setting.draws) None no_offer
page_again setting known (Some action) =
    page_fact known.tab (next_code setting.facts setting.draws) (Some action) (offer_for known.state.page action setting.draws)

-- a failure of the user, if it counts as one, and the page with its new code
abbrev pub shown_again : Setting → KnownTab → Option Action → Option UserId → List Fact
shown_again setting known action user = failure_of user setting.moment ++ page_again setting known action ∷ []

-- a code that was used is no failure
unfoldable pub answer_to_check : Setting → KnownTab → Progress → Form → Finding → Check → Answer
answer_to_check setting known progress form finding (checks.Fits user credential) = answer_to_accepted setting known form finding user credential
answer_to_check setting known progress form finding (checks.Wrong user) =
    answer_in known.tab (whats.BadCredentials (next_page setting known progress)) (shown_again setting known (action_in progress) user)
answer_to_check setting known progress form finding (checks.WrongCode user) =
    answer_in known.tab (whats.BadCode (next_page setting known progress)) (shown_again setting known (action_in progress) user)
answer_to_check setting known progress form finding (checks.SpentCode step) =
    answer_in known.tab (whats.CodeSpent step (next_page setting known progress)) (shown_again setting known (action_in progress) None)

-- in a known tab whose login has come so far
unfoldable pub post_where : Setting → Form → Finding → KnownTab → Option UserId → Progress → Answer
post_where setting form finding known named progress =
    settled setting.facts (Some known.tab) (answer_to_check setting known progress form finding) (check_form setting known progress named form finding)

abbrev pub post_by : Setting → Form → Finding → KnownTab → Option UserId → Answer
post_by setting form finding known named = post_where setting form finding known named (progress_of setting.facts setting.moment known)

-- in a known tab
unfoldable pub post_in : Setting → Post → Finding → KnownTab → Answer
post_in setting post finding known = settled setting.facts (Some known.tab) (post_by setting post.form finding known) (check_post setting.facts setting.moment known post)

unfoldable pub due_post : Setting → Post → Finding → Answer
due_post setting post finding = settled setting.facts None (post_in setting post finding) (check_tab setting.facts setting.moment post.root post.tab)
