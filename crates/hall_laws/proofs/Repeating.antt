-- An accepted post that comes again is refused, and adds nothing.
use Rattle.std.proofs.Common.{◌≡◌, ℕ, ◌≤◌, Bool, true, false, List, [], ◌∷◌, ◌++◌, Some, None, refl, sym, ap, subst, ◌∙◌, append_assoc, arith}
use Rattle.std.specs.List.{All}
use Rattle.std.specs.Prelude.{Option, Result, Ok, Err, fold, unwrap_or, if◌then◌else◌}
use Rattle.std.specs.Option.{option_or}
use Rattle.std.proofs.lemmas.List.{append-nil}
use Rattle.std.proofs.lemmas.List.Elements.{All-head, All-tail}
use Rattle.std.proofs.lemmas.Bool.{eq-eqb}
use Rattle.login_base.specs.IdText.{same_id}
use Rattle.login_base.specs.declared.id.Code.{Code}
use Rattle.login_base.specs.declared.id.RootKey.{RootKey}
use Rattle.login_base.specs.declared.id.SessionId.{SessionId}
use Rattle.login_base.specs.declared.id.TabKey.{TabKey}
use Rattle.login_base.specs.declared.id.UserId.{UserId}
use Rattle.realm_data.specs.declared.action.Action.{Action}
use Rattle.realm_data.specs.declared.action.Action.TheVariants as actions
use Rattle.asks.specs.declared.ask.Form.{Form}
use Rattle.asks.specs.declared.ask.Form.TheVariants as forms
use Rattle.asks.specs.declared.ask.Post.{Post}
use Rattle.facts.specs.declared.fact.Fact.{Fact}
use Rattle.facts.specs.declared.fact.Fact.TheVariants as events
use Rattle.asks.specs.declared.finding.Finding.{Finding}
use Rattle.facts.specs.declared.tabs.Page.{Page}
use Rattle.facts.specs.declared.tabs.RootSession.{RootSession}
use Rattle.facts.specs.declared.tabs.TabState.{TabState}
use Rattle.facts.specs.Accounts.{put_as, account_named}
use Rattle.facts.specs.Actions.{same_action, required_by, is_pending}
use Rattle.facts.specs.Evidence.{has_evidence}
use Rattle.facts.specs.Places.{last_of}
use Rattle.facts.specs.Serials.{tab_serial_after, last_tab_serial}
use Rattle.facts.specs.Tabs.{tab_state, tab_after, shown_code, tab_is_live, tab_is_known, seen_at, is_live, live_among, live_session, user_among, who_of}
use Rattle.facts.proofs.PlacesLemmas.{last_of_append, fold_append}
use Rattle.facts.proofs.SerialLemmas.{last_tab_serial_more}
use Rattle.asks.specs.declared.reply.What.TheVariants as whats
use Rattle.hall_answers.specs.Answers.{only}
use Rattle.hall_answers.specs.declared.answer.Answer.{Answer}
use Rattle.hall_answers.specs.declared.refusal.Refusal.{Refusal}
use Rattle.hall_answers.specs.declared.refusal.Refusal.TheVariants as refusals
use Rattle.hall_answers.specs.Ids.{next_code}
use Rattle.hall_answers.specs.Passwords.{derived, password_facts}
use Rattle.hall_answers.specs.Refusals.{◌>>=◌, what_of, refused, settled}
use Rattle.hall_answers.specs.Setting.{Setting}
use Rattle.login_progress.specs.declared.known_tab.KnownTab.{KnownTab}
use Rattle.login_progress.specs.declared.progress.Progress.{Progress}
use Rattle.login_progress.specs.declared.progress.Progress.TheVariants as progresses
use Rattle.login_progress.specs.PasswordFor.{password_for}
use Rattle.login_progress.specs.Progress.{progress_of, asked_in}
use Rattle.tab_asks.specs.declared.check.Check.TheVariants as checks
use Rattle.tab_asks.specs.declared.check.Credential.{Credential}
use Rattle.tab_asks.specs.declared.check.Spent.{Spent}
use Rattle.tab_asks.specs.declared.check.Spent.TheVariants as spends
use Rattle.tab_asks.specs.declared.passing.Passing.{Passing}
use Rattle.tab_asks.specs.Forms.{named_by, target_of, code_evidence, evidence_of}
use Rattle.tab_asks.specs.Deeds.{new_serial, done_facts, step_used, secret_deed, codes_deed, deed_facts}
use Rattle.tab_pages.specs.Offering.{no_offer, offer_for}
use Rattle.tab_pages.specs.Pages.{page_fact, session_for, beginning, levels_recorded, seen_now, completion_facts, completion, progress_answer, tab_answer}
use Rattle.tab_asks.specs.Post.{is_code, check_code, check_user, check_post, is_asked, check_form, check_with, known_over, accepted_facts, answer_to_accepted, post_where, post_by, post_in, due_post}
use Rattle.tab_pages.specs.Visit.{check_tab, check_whole, check_unfinished, user_of, same_user}
use Rattle.hall_laws.specs.AskedEvidence.{execution_of}
use Rattle.hall_laws.specs.Ready.{IsAccepted, facts_accepted, progress_at, done_for}
use Rattle.hall_laws.specs.Repeats.{HasCodesCounted, is_repeat_refusal, IsRepeatRefused, IsAnsweredAgain, refused_as_finished}
use Rattle.hall_laws.proofs.DeedFacts.{deeds_all}
use Rattle.hall_laws.proofs.CodeSerials.{IsBelow, last_below, shown_at_most, other_code}
use Rattle.hall_laws.proofs.EvidenceCounts.{HasPassed, check_uses, evidence_counts}
use Rattle.hall_laws.proofs.PostReadiness.{Current, is_current, behind, accepted_due, answered, known_accepted, opened_behind, whole_behind}
use Rattle.hall_laws.proofs.Readiness.{ready_user, lets_in}
use Rattle.hall_laws.proofs.TabLives.{lives, expires, forgets}
use Rattle.hall_laws.proofs.TabStates.{same_id-same, more_state, with_name}
use Rattle.hall_laws.proofs.Unasked.{IsPostOf, HasDone, fits_post_of, form_unasked}

-- ---- what the checks of a post refuse, they refuse as a repeat

abbrev gate : {A : Type 0} → List Fact → Result A Refusal → Bool
gate facts (Ok x) = true
gate facts (Err refusal) = is_repeat_refusal (what_of facts refusal)

first_gate : {A B : Type 0} (facts : List Fact) (first : Result A Refusal) (more : A → Result B Refusal) → gate facts first ≡ true → ((x : A) → gate facts (more x) ≡ true)
    → gate facts (first >>= more) ≡ true
first_gate facts (Ok x) more h rest = rest x
first_gate facts (Err refusal) more h rest = h

code_gate : (facts : List Fact) (shown : Bool) (current : Option Code) → gate {A = Unit {0}} facts (if shown then Ok tt else Err (refusals.Stale current)) ≡ true
code_gate facts true current = refl
code_gate facts false current = refl

one_gate : (facts : List Fact) (same : Bool) (user own : UserId) → gate {A = Unit {0}} facts (if same then Ok tt else Err (refusals.OtherUser user own)) ≡ true
one_gate facts true user own = refl
one_gate facts false user own = refl

user_gate : (facts : List Fact) (named own : Option UserId) → gate facts (same_user named own) ≡ true
user_gate facts (Some user) (Some own) = one_gate facts _ user own
user_gate facts (Some user) None = refl
user_gate facts None own = refl

finished_gate : (facts : List Fact) (completed : Bool) → gate {A = Unit {0}} facts (if completed then Err refusals.Finished else Ok tt) ≡ true
finished_gate facts true = refl
finished_gate facts false = refl

post_gate : (facts : List Fact) (moment : ℕ) (known : KnownTab) (post : Post) → gate facts (check_post facts moment known post) ≡ true
unfolding check_post check_whole
post_gate facts moment known post =
    let own = user_of (live_session moment known.state) in
    first_gate facts (check_code known post.code) _ (code_gate facts (is_code post.code (shown_code known.state)) (shown_code known.state)) (λ current.
    first_gate facts (check_whole moment known) _ (user_gate facts known.state.named own) (λ whole.
    first_gate facts (check_user moment known (named_by facts post.form)) _ (user_gate facts (named_by facts post.form) own) (λ same.
    first_gate facts (check_unfinished known) _ (finished_gate facts known.state.completed) (λ unfinished. refl))))

-- ---- the answer

pub record IsRefused (tab : TabKey) (answer : Answer) : Type 0 where
  pub reply : IsRepeatRefused tab answer.reply
  pub added : answer.added ≡ []

settled_refused : {A : Type 0} (facts : List Fact) (tab : TabKey) (answer : A → Answer) (result : Result A Refusal) → gate facts result ≡ true
    → ((x : A) → result ≡ Ok x → IsRefused tab (answer x)) → IsRefused tab (settled facts (Some tab) answer result)
settled_refused facts tab answer (Ok x) h rest = rest x refl
settled_refused facts tab answer (Err refusal) h rest = record { reply = record { in_its_tab = refl; refusal = h }; added = refl }

not_asked : (setting : Setting) (post : Post) (finding : Finding) (known : KnownTab) (named : Option UserId)
    → is_asked (progress_of setting.facts setting.moment known) known.state.page post.form ≡ false → IsRefused known.tab (post_by setting post.form finding known named)
unfolding post_where check_form
not_asked setting post finding known named h = rw h (record { reply = record { in_its_tab = refl; refusal = refl }; added = refl })

again_in : (later : Setting) (post : Post) (finding : Finding) (known : KnownTab) → check_tab later.facts later.moment post.root post.tab ≡ Ok known
    → ((named : Option UserId) → Current later.facts later.moment known post named → is_asked (progress_of later.facts later.moment known) known.state.page post.form ≡ false)
    → IsRefused known.tab (due_post later post finding)
unfolding due_post post_in
again_in later post finding known is_known lacks =
    let checked = check_post later.facts later.moment known post in
    subst (λ (found : Result KnownTab Refusal). IsRefused known.tab (settled later.facts None (post_in later post finding) found)) (sym is_known)
    (settled_refused later.facts known.tab (post_by later post.form finding known) checked (post_gate later.facts later.moment known post) (λ named is.
    not_asked later post finding known named (lacks named (is_current later.facts later.moment known post named is))))

-- ---- the tab later

lost_due : (later : Setting) (post : Post) (finding : Finding) (refusal : Refusal) → check_tab later.facts later.moment post.root post.tab ≡ Err refusal
    → due_post later post finding ≡ refused later.facts None refusal
unfolding due_post
lost_due later post finding refusal h = rw h refl

-- ---- what a completion leaves

abbrev with_session : TabState → Option RootSession → TabState
with_session state own = record state { completed = true; session = own }

abbrev new_session : Setting → SessionId → UserId → RootSession
new_session setting session user =
    record { session = session; user = user; opened = setting.moment; seen = setting.moment; idle = setting.realm.session.idle; max = setting.realm.session.max }

-- the session that is left, by the one that was live
abbrev session_left : Setting → SessionId → UserId → Option RootSession → Option RootSession → Option RootSession
session_left setting session user None own = Some (new_session setting session user)
session_left setting session user (Some live) own = seen_at live.session setting.moment own

-- recorded levels change nothing of a tab
levels_fold : (root : RootKey) (tab : TabKey) (setting : Setting) (session : SessionId) (levels : List ℕ) (state : TabState)
    → fold (tab_after root tab) state (levels_recorded setting session levels) ≡ state
levels_fold root tab setting session [] state = refl
levels_fold root tab setting session (level ∷ levels) state = levels_fold root tab setting session levels state

completed_fold : (setting : Setting) (known : KnownTab) (session : SessionId) (user : UserId) (levels : List ℕ) (live : Option RootSession) (state : TabState)
    → fold (tab_after known.root known.tab) state (completion_facts setting known user levels session live)
    ≡ fold (tab_after known.root known.tab)
    (fold (tab_after known.root known.tab) (fold (tab_after known.root known.tab) state (beginning setting session known.root user live)) (seen_now setting live))
    (events.Completed known.tab user session setting.moment ∷ [])
completed_fold setting known session user levels live state =
    let step = tab_after known.root known.tab in
    let begun = beginning setting session known.root user live in
    let reached = levels_recorded setting session levels in
    let seen = seen_now setting live in
    let ending = events.Completed known.tab user session setting.moment ∷ [] in
    let first = fold_append step state begun reached ∙ levels_fold known.root known.tab setting session levels (fold step state begun) in
    let second = fold_append step state (begun ++ reached) seen ∙ ap (λ (s : TabState). fold step s seen) first in
    fold_append step state ((begun ++ reached) ++ seen) ending ∙ ap (λ (s : TabState). fold step s ending) second

completed_state : (setting : Setting) (known : KnownTab) (session : SessionId) (user : UserId) (levels : List ℕ) (live : Option RootSession) (state : TabState)
    → fold (tab_after known.root known.tab) state (completion_facts setting known user levels session live) ≡ with_session state (session_left setting session user live state.session)
completed_state setting known session user levels None state = completed_fold setting known session user levels None state ∙ rw (same_id-same known.root.0, same_id-same known.tab.0) refl
completed_state setting known session user levels (Some live) state = completed_fold setting known session user levels (Some live) state ∙ rw (same_id-same known.tab.0) refl

user_same : (user : UserId) → same_user (Some user) (Some user) ≡ Ok tt
user_same user = rw (eq-eqb user.0 user.0 refl) refl

live_user : (live : Bool) (own : RootSession) (named : Option UserId) → same_user named (Some own.user) ≡ Ok tt → same_user named (user_of (if live then Some own else None)) ≡ Ok tt
live_user true own named h = h
live_user false own None h = refl
live_user false own (Some user) h = refl

taken : (live : Bool) (own found : RootSession) → ◌≡◌ {A = Option RootSession} (if live then Some own else None) (Some found) → own ≡ found
taken true own found h = cc
taken false own found h = absurd cc

abbrev seen_if : Bool → ℕ → RootSession → RootSession
seen_if same moment own = if same then record own { seen = moment } else own

seen_user : (same : Bool) (moment : ℕ) (own : RootSession) → (seen_if same moment own).user ≡ own.user
seen_user true moment own = refl
seen_user false moment own = refl

-- the session that a completion leaves, and that the user that was named last is its user
record Kept (own : Option RootSession) (named : Option UserId) : Type 0 where
  session : RootSession
  is : own ≡ Some session
  fits : same_user named (Some session.user) ≡ Ok tt

session_kept : (setting : Setting) (session : SessionId) (user : UserId) (own live : Option RootSession) (named : Option UserId)
    → live_among setting.moment own ≡ live → same_user named (user_of live) ≡ Ok tt → user_among live named ≡ Some user
    → Kept (session_left setting session user live own) named
session_kept setting session user None (Some found) named is same who = absurd cc
session_kept setting session user (Some own) (Some found) named is same who =
    let e = taken (is_live setting.moment own) own found is in
    let here = same_id own.session.0 found.session.0 in
    record {
      session = seen_if here setting.moment own;
      is = refl;
      fits = subst (λ (u : UserId). same_user named (Some u) ≡ Ok tt) (sym (seen_user here setting.moment own ∙ ap (λ (o : RootSession). o.user) e)) same;
    }
session_kept setting session user own None named is same who =
    record {
      session = new_session setting session user;
      is = refl;
      fits = subst (λ (n : Option UserId). same_user n (Some user) ≡ Ok tt) (sym who) (user_same user);
    }

-- ---- no account is put by a post

account_kept : (name : List ℕ) (old more : List Fact) → last_of (put_as name) more ≡ None → account_named name (old ++ more) ≡ account_named name old
unfolding account_named
account_kept name old more h = last_of_append (put_as name) old more ∙ ap (λ (o : Option UserId). option_or o (last_of (put_as name) old)) h

named_kept : (form : Form) (old more : List Fact) → ((name : List ℕ) → last_of (put_as name) more ≡ None) → named_by (old ++ more) form ≡ named_by old form
named_kept (forms.Username execution name) old more h = account_kept name old more (h name)
named_kept (forms.NamePassword execution name password) old more h = account_kept name old more (h name)
named_kept (forms.Password execution password) old more h = refl
named_kept (forms.Value execution value) old more h = refl
named_kept forms.Terms old more h = refl
named_kept (forms.UpdatePassword password) old more h = refl
named_kept (forms.ConfigureOtp value) old more h = refl
named_kept forms.RecoveryCodes old more h = refl
named_kept forms.VerifyEmail old more h = refl

code_puts : (passing : Passing) (execution : List ℕ) (spent : Spent) (name : List ℕ) → last_of (put_as name) (code_evidence passing execution spent) ≡ None
code_puts passing execution spends.Nothing name = refl
code_puts passing execution (spends.Step step) name = refl
code_puts passing execution (spends.Number number) name = refl

evidence_puts : (passing : Passing) (form : Form) (name : List ℕ) → last_of (put_as name) (evidence_of passing form) ≡ None
evidence_puts passing (forms.Username execution other) name = refl
evidence_puts passing (forms.NamePassword execution other password) name = refl
evidence_puts passing (forms.Password execution password) name = refl
evidence_puts passing (forms.Value execution value) name = code_puts passing execution passing.credential.spent name
evidence_puts passing forms.Terms name = refl
evidence_puts passing (forms.UpdatePassword password) name = refl
evidence_puts passing (forms.ConfigureOtp value) name = refl
evidence_puts passing forms.RecoveryCodes name = refl
evidence_puts passing forms.VerifyEmail name = refl

puts_none : (name : List ℕ) (facts : List Fact) → All (λ fact. put_as name fact ≡ None) facts → last_of (put_as name) facts ≡ None
puts_none name [] all = refl
puts_none name (fact ∷ facts) all =
    let P : Fact → Type 0 = λ fact. put_as name fact ≡ None in
    rw (puts_none name facts (All-tail P fact facts all), All-head P fact facts all) refl

neither_puts : (name : List ℕ) (one other : List Fact) → last_of (put_as name) one ≡ None → last_of (put_as name) other ≡ None → last_of (put_as name) (one ++ other) ≡ None
neither_puts name one other h k = last_of_append (put_as name) one other ∙ rw (k, h) refl

levels_put : (setting : Setting) (session : SessionId) (levels : List ℕ) (name : List ℕ) → last_of (put_as name) (levels_recorded setting session levels) ≡ None
levels_put setting session [] name = refl
levels_put setting session (level ∷ levels) name = rw (levels_put setting session levels name) refl

beginning_puts : (setting : Setting) (session : SessionId) (root : RootKey) (user : UserId) (live : Option RootSession) (name : List ℕ)
    → last_of (put_as name) (beginning setting session root user live) ≡ None
beginning_puts setting session root user None name = refl
beginning_puts setting session root user (Some live) name = refl

seen_puts : (setting : Setting) (live : Option RootSession) (name : List ℕ) → last_of (put_as name) (seen_now setting live) ≡ None
seen_puts setting None name = refl
seen_puts setting (Some live) name = refl

completion_puts : (setting : Setting) (known : KnownTab) (session : SessionId) (user : UserId) (levels : List ℕ) (live : Option RootSession) (name : List ℕ)
    → last_of (put_as name) (completion_facts setting known user levels session live) ≡ None
completion_puts setting known session user levels live name =
    let begun = beginning setting session known.root user live in
    let reached = levels_recorded setting session levels in
    let seen = seen_now setting live in
    let first = neither_puts name begun reached (beginning_puts setting session known.root user live name) (levels_put setting session levels name) in
    neither_puts name ((begun ++ reached) ++ seen) (events.Completed known.tab user session setting.moment ∷ [])
    (neither_puts name (begun ++ reached) seen first (seen_puts setting live name)) refl

same_named : (named first : Option UserId) (own : UserId) → same_user (option_or named first) (Some own) ≡ Ok tt → same_user named (Some own) ≡ Ok tt
same_named (Some user) first own same = same
same_named None first own same = refl

-- ---- what an accepted post adds

code_serial : (old : List Fact) (passing : Passing) (execution : List ℕ) (spent : Spent) → last_tab_serial (old ++ code_evidence passing execution spent) ≡ last_tab_serial old
code_serial old passing execution spends.Nothing = last_tab_serial_more old []
code_serial old passing execution (spends.Step step) = last_tab_serial_more old (code_evidence passing execution (spends.Step step))
code_serial old passing execution (spends.Number number) = last_tab_serial_more old (code_evidence passing execution (spends.Number number))

evidence_serial : (old : List Fact) (passing : Passing) (form : Form) → last_tab_serial (old ++ evidence_of passing form) ≡ last_tab_serial old
evidence_serial old passing (forms.Username execution name) = last_tab_serial_more old (evidence_of passing (forms.Username execution name))
evidence_serial old passing (forms.NamePassword execution name password) = last_tab_serial_more old (evidence_of passing (forms.NamePassword execution name password))
evidence_serial old passing (forms.Password execution password) = last_tab_serial_more old (evidence_of passing (forms.Password execution password))
evidence_serial old passing (forms.Value execution value) = code_serial old passing execution passing.credential.spent
evidence_serial old passing forms.Terms = last_tab_serial_more old []
evidence_serial old passing (forms.UpdatePassword password) = last_tab_serial_more old []
evidence_serial old passing (forms.ConfigureOtp value) = last_tab_serial_more old []
evidence_serial old passing forms.RecoveryCodes = last_tab_serial_more old []
evidence_serial old passing forms.VerifyEmail = last_tab_serial_more old []

-- a fact takes no serial of the tab counter
abbrev LeavesCodes : Fact → Type 0
LeavesCodes fact = (n : ℕ) → tab_serial_after n fact ≡ n

serial_left : (n : ℕ) (facts : List Fact) → All LeavesCodes facts → fold tab_serial_after n facts ≡ n
serial_left n [] all = refl
serial_left n (fact ∷ facts) all =
    ap (λ (m : ℕ). fold tab_serial_after m facts) (All-head LeavesCodes fact facts all n) ∙ serial_left n facts (All-tail LeavesCodes fact facts all)

action_same : (action : Action) → same_action action action ≡ true
action_same actions.Terms = refl
action_same actions.VerifyEmail = refl
action_same actions.UpdatePassword = refl
action_same actions.ConfigureOtp = refl
action_same actions.RecoveryCodes = refl

done_last : (front : List Fact) (user : UserId) (action : Action) → is_pending user (front ++ done_facts user action) action ≡ false
unfolding is_pending
done_last front user action =
    let last : last_of (required_by user action) (done_facts user action) ≡ Some false = rw (eq-eqb user.0 user.0 refl, action_same action) refl in
    ap (λ (o : Option Bool). unwrap_or o false) (last_of_append (required_by user action) front (done_facts user action) ∙ ap (λ (o : Option Bool). option_or o (last_of (required_by user action) front)) last)

done_behind : (front middle : List Fact) (user : UserId) (action : Action) → is_pending user (front ++ (middle ++ done_facts user action)) action ≡ false
done_behind front middle user action =
    ap (λ (facts : List Fact). is_pending user facts action) (sym (append_assoc front middle (done_facts user action))) ∙ done_last (front ++ middle) user action

module _ (setting : Setting) (known : KnownTab) (finding : Finding) (user : UserId) (credential : Credential) where
  -- a form of an execution does no action
  no_deeds : (form : Form) (execution : List ℕ) → execution_of form ≡ Some execution → deed_facts setting known form finding user credential.spent ≡ []
  no_deeds (forms.Username own name) execution h = refl
  no_deeds (forms.NamePassword own name password) execution h = refl
  no_deeds (forms.Password own password) execution h = refl
  no_deeds (forms.Value own value) execution h = refl
  no_deeds forms.Terms execution h = absurd cc
  no_deeds (forms.UpdatePassword password) execution h = absurd cc
  no_deeds (forms.ConfigureOtp value) execution h = absurd cc
  no_deeds forms.RecoveryCodes execution h = absurd cc
  no_deeds forms.VerifyEmail execution h = absurd cc

  -- the action of a form is done
  has_done : (form : Form) → HasDone (setting.facts ++ accepted_facts setting known form finding user credential) user form
  has_done forms.Terms actions.Terms h = done_last setting.facts user actions.Terms
  has_done (forms.UpdatePassword password) actions.UpdatePassword h =
      done_behind setting.facts (password_facts user (new_serial setting) (derived finding) (Some known.tab)) user actions.UpdatePassword
  has_done (forms.ConfigureOtp value) actions.ConfigureOtp h =
      done_behind setting.facts (secret_deed setting known user ++ step_used (new_serial setting) credential.spent) user actions.ConfigureOtp
  has_done forms.RecoveryCodes actions.RecoveryCodes h = done_behind setting.facts (codes_deed setting known user) user actions.RecoveryCodes
  has_done form action h = absurd cc

  abbrev of_post : Passing
  of_post = record { tab = known.tab; user = user; credential = credential; moment = setting.moment }

  deeds_put : (form : Form) (name : List ℕ) → last_of (put_as name) (deed_facts setting known form finding user credential.spent) ≡ None
  deeds_put form name =
      let P : Fact → Type 0 = λ fact. put_as name fact ≡ None in
      puts_none name (deed_facts setting known form finding user credential.spent)
      (deeds_all P (λ own kind serial secret by. refl) (λ own action. refl) (λ serial step. refl) setting known form finding user credential.spent)

  -- no account is put
  accepted_puts : (form : Form) (name : List ℕ) → last_of (put_as name) (accepted_facts setting known form finding user credential) ≡ None
  accepted_puts form name =
      neither_puts name (evidence_of of_post form) (deed_facts setting known form finding user credential.spent) (evidence_puts of_post form name) (deeds_put form name)

  -- and no serial of the tab counter is taken
  accepted_serial : (form : Form) → last_tab_serial (setting.facts ++ accepted_facts setting known form finding user credential) ≡ last_tab_serial setting.facts
  accepted_serial form =
      let evidence = evidence_of of_post form in
      let deeds = deed_facts setting known form finding user credential.spent in
      ap last_tab_serial (sym (append_assoc setting.facts evidence deeds))
      ∙ last_tab_serial_more (setting.facts ++ evidence) deeds
      ∙ serial_left (last_tab_serial (setting.facts ++ evidence)) deeds
      (deeds_all LeavesCodes (λ own kind serial secret by n. refl) (λ own action n. refl) (λ serial step n. refl) setting known form finding user credential.spent)
      ∙ evidence_serial setting.facts of_post form

-- ---- an accepted post, and the same post later

finished_check : (facts : List Fact) (moment : ℕ) (known : KnownTab) (post : Post) → is_code post.code (shown_code known.state) ≡ true → check_whole moment known ≡ Ok tt
    → check_user moment known (named_by facts post.form) ≡ Ok tt → known.state.completed ≡ true → check_post facts moment known post ≡ Err refusals.Finished
unfolding check_post
finished_check facts moment known post code_shown whole same completed = rw (code_shown, whole, same, completed) refl

finished_due : (later : Setting) (post : Post) (finding : Finding) (known : KnownTab) → check_tab later.facts later.moment post.root post.tab ≡ Ok known
    → check_post later.facts later.moment known post ≡ Err refusals.Finished → due_post later post finding ≡ refused_as_finished known.tab
unfolding due_post post_in
finished_due later post finding known is_known finished = rw (is_known, finished) refl

finished_answer : (tab : TabKey) (answer : Answer) → answer ≡ refused_as_finished tab → IsRefused tab answer
finished_answer tab answer h = subst (IsRefused tab) (sym h) (record { reply = record { in_its_tab = refl; refusal = refl }; added = refl })

abbrev with_page : TabState → Page → TabState
with_page state page = record state { page = Some page }

module _ (setting : Setting) (post : Post) (finding : Finding) (accepted : IsAccepted setting post finding) (later : Setting) (later_finding : Finding) where
  abbrev more : List Fact
  more = facts_accepted setting post finding accepted

  abbrev now : KnownTab
  now = known_accepted setting post finding accepted

  abbrev after : KnownTab
  after = known_over accepted.known later.facts

  opening_later : (extra : List Fact) (state : TabState) → later.facts ≡ more ++ extra → fold (tab_after accepted.known.root accepted.known.tab) now.state extra ≡ state
      → after.state ≡ state
  opening_later extra state next is =
      ap (tab_state accepted.known.root accepted.known.tab) next ∙ more_state accepted.known.root accepted.known.tab more extra ∙ is

  -- where it lives later, it is found again
  known_later : tab_is_live later.moment accepted.known.opening ≡ true → (state : TabState) → after.state ≡ state → state.opening ≡ now.state.opening
      → check_tab later.facts later.moment post.root post.tab ≡ Ok after
  known_later live state is same =
      let known = accepted.known in
      let b = behind setting post finding accepted in
      let opened = ap (λ (s : TabState). s.opening) is ∙ same ∙ opened_behind setting post finding accepted in
      ap (λ (r : Option RootKey). check_tab later.facts later.moment r post.tab) b.known.is_root
      ∙ ap (λ (t : TabKey). check_tab later.facts later.moment (Some known.root) t) b.known.is_tab
      ∙ lives later.facts later.moment known.root known.tab known.opening opened live

  -- the code was one that the facts count
  code_counted : HasCodesCounted setting.facts → post.code.0.serial ≤ last_tab_serial more
  code_counted counted =
      let known = accepted.known in
      let b = behind setting post finding accepted in
      let below = subst (λ (s : TabState). IsBelow (last_tab_serial setting.facts) (shown_code s)) (sym b.known.is_state) (last_below known.root known.tab setting.facts counted) in
      let least = shown_at_most post.code (shown_code known.state) (last_tab_serial setting.facts) b.current.code_shown below in
      let same = accepted_serial setting known finding accepted.user accepted.credential post.form in
      subst (λ (n : ℕ). post.code.0.serial ≤ n) (sym same) least

  -- a page was shown, with a new code
  again_shown : (action : Option Action) (offer : List ℕ) → tab_is_live later.moment accepted.known.opening ≡ true → HasCodesCounted setting.facts
      → later.facts ≡ more ++ page_fact accepted.known.tab (next_code more setting.draws) action offer ∷ [] → IsRefused accepted.known.tab (due_post later post later_finding)
  again_shown action offer live counted next =
      let code = next_code more setting.draws in
      let page : Page = record { code = code; action = action; offer = offer } in
      let shown = page_fact accepted.known.tab code action offer in
      let state = with_page now.state page in
      let folded : fold (tab_after accepted.known.root accepted.known.tab) now.state (shown ∷ []) ≡ state = rw (same_id-same accepted.known.tab.0) refl in
      let is = opening_later (shown ∷ []) state next folded in
      let least = code_counted counted in
      let other : is_code post.code (Some code) ≡ false = other_code post.code code (omega (arith, least)) in
      again_in later post later_finding after (known_later live state is refl)
      (λ named current. let shown : is_code post.code (Some code) ≡ true = sym (ap (λ (s : TabState). is_code post.code (shown_code s)) is) ∙ current.code_shown in absurd cc)

  post_of : IsPostOf accepted.user setting.moment now.state post.form
  post_of =
      let known = accepted.known in
      let b = behind setting post finding accepted in
      let who = who_of setting.moment known.state in
      let form = post.form in
      let asked = asked_in (progress_at setting known) in
      let check = subst (λ (n : Option UserId). check_with setting known asked n who (password_for setting.facts (target_of n who form)) form finding ≡ checks.Fits accepted.user accepted.credential)
      (sym b.current.is_named) b.fitting.is_check in
      let target = target_of (named_by setting.facts form) who form in
      let of = fits_post_of setting known asked (password_for setting.facts target) form finding accepted.user accepted.credential check in
      let named = subst (λ (n : Option UserId). IsPostOf accepted.user setting.moment (with_name known.state n) form) b.current.is_named of in
      subst (λ (s : TabState). IsPostOf accepted.user setting.moment s form) (sym b.is_state) named

  -- its execution is passed
  is_passed : HasPassed more accepted.known.tab accepted.user post.form
  is_passed execution is =
      let known = accepted.known in
      let b = behind setting post finding accepted in
      let passing : Passing = record { tab = known.tab; user = accepted.user; credential = accepted.credential; moment = setting.moment } in
      let who = who_of setting.moment known.state in
      let target = target_of accepted.named who post.form in
      let asked = asked_in (progress_at setting known) in
      let used = check_uses setting known asked accepted.named who (password_for setting.facts target) post.form finding accepted.user accepted.credential b.fitting.is_check in
      let evidence = evidence_of passing post.form in
      let alone = ap (λ (deeds : List Fact). evidence ++ deeds) (no_deeds setting known finding accepted.user accepted.credential post.form execution is) ∙ append-nil evidence in
      ap (λ (added : List Fact). has_evidence known.tab accepted.user execution (setting.facts ++ added)) alone
      ∙ evidence_counts setting.facts passing post.form used execution is

  is_done : HasDone more accepted.user post.form
  is_done = has_done setting accepted.known finding accepted.user accepted.credential post.form

  -- nothing was added behind the evidence
  again_blocked : tab_is_live later.moment accepted.known.opening ≡ true → later.facts ≡ more ++ [] → IsRefused accepted.known.tab (due_post later post later_finding)
  again_blocked live next =
      let is_more : later.facts ≡ more = next ∙ append-nil more in
      let lacks = subst (λ (facts : List Fact). (named : Option UserId) → Current facts later.moment (known_over accepted.known facts) post named
      → is_asked (progress_of facts later.moment (known_over accepted.known facts)) (known_over accepted.known facts).state.page post.form ≡ false) (sym is_more)
      (λ named current. form_unasked more setting.moment later.moment now accepted.user post.form now.state.page post_of (whole_behind setting post finding accepted) is_passed is_done current.whole) in
      again_in later post later_finding after (known_later live now.state (opening_later [] now.state next refl) refl) lacks

  -- the login completed
  again_completed : tab_is_live later.moment accepted.known.opening ≡ true → (user : UserId) (levels : List ℕ) → progress_of more setting.moment now ≡ progresses.Ready user levels
      → later.facts ≡ more ++ (completion more setting now user levels).added → due_post later post later_finding ≡ refused_as_finished accepted.known.tab
  unfolding completion check_whole
  again_completed alive user levels is next =
      let known = accepted.known in
      let b = behind setting post finding accepted in
      let live = live_session setting.moment now.state in
      let session = session_for more setting.draws live in
      let added = completion_facts setting now user levels session live in
      let who = (lets_in more setting.moment now user (ap ready_user is)).is_theirs in
      let kept = session_kept setting session user now.state.session live now.state.named refl (whole_behind setting post finding accepted) who in
      let state = with_session now.state (Some kept.session) in
      let folded = completed_state setting now session user levels live now.state ∙ ap (with_session now.state) kept.is in
      let is_state = opening_later added state next folded in
      let names =
      ap (λ (facts : List Fact). named_by facts post.form) next
      ∙ named_kept post.form more added (λ name. completion_puts setting now session user levels live name)
      ∙ named_kept post.form setting.facts (accepted_facts setting known post.form finding accepted.user accepted.credential) (accepted_puts setting known finding accepted.user accepted.credential post.form)
      ∙ b.current.is_named in
      let fits = subst (λ (s : TabState). same_user s.named (Some kept.session.user) ≡ Ok tt) b.is_state kept.fits in
      let named_fits = same_named accepted.named known.state.named kept.session.user fits in
      let code_shown = ap (λ (s : TabState). is_code post.code (shown_code s)) (is_state ∙ ap (λ (s : TabState). with_session s (Some kept.session)) b.is_state) ∙ b.current.code_shown in
      let whole = subst (λ (s : TabState). same_user s.named (user_of (live_session later.moment s)) ≡ Ok tt) (sym is_state) (live_user (is_live later.moment kept.session) kept.session now.state.named kept.fits) in
      let same_live = live_user (is_live later.moment kept.session) kept.session accepted.named named_fits in
      let same_state = subst (λ (s : TabState). same_user accepted.named (user_of (live_session later.moment s)) ≡ Ok tt) (sym is_state) same_live in
      let same = subst (λ (n : Option UserId). same_user n (user_of (live_session later.moment after.state)) ≡ Ok tt) (sym names) same_state in
      let completed = ap (λ (s : TabState). s.completed) is_state in
      finished_due later post later_finding after (known_later alive state is_state refl) (finished_check later.facts later.moment after post code_shown whole same completed)

  again_of_progress : tab_is_live later.moment accepted.known.opening ≡ true → (progress : Progress) → progress_of more setting.moment now ≡ progress → HasCodesCounted setting.facts
      → later.facts ≡ more ++ (progress_answer more setting now progress).added → IsRefused accepted.known.tab (due_post later post later_finding)
  unfolding progress_answer
  again_of_progress live (progresses.Ready user levels) is counted next = finished_answer accepted.known.tab _ (again_completed live user levels is next)
  again_of_progress live (progresses.Asked asked) is counted next = again_shown None no_offer live counted next
  again_of_progress live (progresses.Denied execution) is counted next = again_blocked live next
  again_of_progress live (progresses.NotConfigured execution) is counted next = again_blocked live next
  again_of_progress live progresses.DeadEnd is counted next = again_blocked live next
  again_of_progress live (progresses.LevelMissed level) is counted next = again_blocked live next
  again_of_progress live (progresses.Required user action) is counted next = again_shown (Some action) (offer_for now.state.page action setting.draws) live counted next

  -- what the facts are later
  facts_later : later.facts ≡ setting.facts ++ (due_post setting post finding).added → later.facts ≡ more ++ (tab_answer more setting now).added
  unfolding answer_to_accepted
  facts_later next =
      let added = accepted_facts setting accepted.known post.form finding accepted.user accepted.credential in
      next ∙ ap (λ (a : Answer). setting.facts ++ a.added) (accepted_due setting post finding accepted)
      ∙ sym (append_assoc setting.facts added (tab_answer more setting now).added)

  in_its_tab : (P : TabKey → Type 0) → P accepted.known.tab → P post.tab
  in_its_tab P h = subst P (sym (behind setting post finding accepted).known.is_tab) h

  again_refused : tab_is_live later.moment accepted.known.opening ≡ true → HasCodesCounted setting.facts → later.facts ≡ setting.facts ++ (due_post setting post finding).added
      → IsRefused post.tab (due_post later post later_finding)
  unfolding tab_answer
  again_refused live counted next =
      in_its_tab (λ (tab : TabKey). IsRefused tab (due_post later post later_finding))
      (again_of_progress live (progress_of more setting.moment now) refl counted (facts_later next))

  -- ---- once the tab lives no longer

  -- what the answer adds doesn't open the tab again
  opening_kept : (progress : Progress) (state : TabState) → (fold (tab_after accepted.known.root accepted.known.tab) state (progress_answer more setting now progress).added).opening ≡ state.opening
  unfolding progress_answer completion
  opening_kept (progresses.Ready user levels) state =
      let live = live_session setting.moment now.state in
      ap (λ (s : TabState). s.opening) (completed_state setting now (session_for more setting.draws live) user levels live state)
  opening_kept (progresses.Asked asked) state = refl
  opening_kept (progresses.Denied execution) state = refl
  opening_kept (progresses.NotConfigured execution) state = refl
  opening_kept progresses.DeadEnd state = refl
  opening_kept (progresses.LevelMissed level) state = refl
  opening_kept (progresses.Required user action) state = refl

  still_opened : later.facts ≡ setting.facts ++ (due_post setting post finding).added → after.state.opening ≡ Some accepted.known.opening
  unfolding tab_answer
  still_opened next =
      let progress = progress_of more setting.moment now in
      let added = (progress_answer more setting now progress).added in
      ap (λ (s : TabState). s.opening) (opening_later added (fold (tab_after accepted.known.root accepted.known.tab) now.state added) (facts_later next) refl)
      ∙ opening_kept progress now.state ∙ opened_behind setting post finding accepted

  lost : (refusal : Refusal) → check_tab later.facts later.moment (Some accepted.known.root) accepted.known.tab ≡ Err refusal → due_post later post later_finding ≡ refused later.facts None refusal
  lost refusal h =
      let b = behind setting post finding accepted in
      lost_due later post later_finding refusal
      (ap (λ (r : Option RootKey). check_tab later.facts later.moment r post.tab) b.known.is_root
      ∙ ap (λ (t : TabKey). check_tab later.facts later.moment (Some accepted.known.root) t) b.known.is_tab ∙ h)

  expired_later : later.facts ≡ setting.facts ++ (due_post setting post finding).added
      → tab_is_live later.moment accepted.known.opening ≡ false → tab_is_known later.moment accepted.known.opening ≡ true
      → due_post later post later_finding ≡ only None whats.TabExpired
  expired_later next dead is_known =
      let known = accepted.known in
      lost refusals.TabExpired (expires later.facts later.moment known.root known.tab known.opening (still_opened next) dead is_known)

  forgotten_later : later.facts ≡ setting.facts ++ (due_post setting post finding).added
      → tab_is_known later.moment accepted.known.opening ≡ false → due_post later post later_finding ≡ only None whats.UnknownTab
  forgotten_later next gone =
      let known = accepted.known in
      lost refusals.UnknownTab (forgets later.facts later.moment known.root known.tab known.opening (still_opened next) gone)

  -- in one way while the tab lives, and then as one that has none
  answered_again : (Living : Type 0) → (tab_is_live later.moment accepted.known.opening ≡ true → Living) → later.facts ≡ setting.facts ++ (due_post setting post finding).added
      → IsAnsweredAgain Living setting post later.moment (due_post later post later_finding)
  answered_again Living while_alive next =
      record { known = accepted.known; is_known = accepted.is_known; living = while_alive; expired = expired_later next; forgotten = forgotten_later next }

  pub refused_again : HasCodesCounted setting.facts → later.facts ≡ setting.facts ++ (due_post setting post finding).added
      → IsAnsweredAgain (IsRepeatRefused post.tab (due_post later post later_finding).reply) setting post later.moment (due_post later post later_finding)
  refused_again counted next = answered_again (IsRepeatRefused post.tab (due_post later post later_finding).reply) (λ live. (again_refused live counted next).reply) next

  nothing_by : (live is_known : Bool) → tab_is_live later.moment accepted.known.opening ≡ live → tab_is_known later.moment accepted.known.opening ≡ is_known
      → HasCodesCounted setting.facts → later.facts ≡ setting.facts ++ (due_post setting post finding).added → (due_post later post later_finding).added ≡ []
  nothing_by true is_known l k counted next = (again_refused l counted next).added
  nothing_by false true l k counted next = ap (λ (a : Answer). a.added) (expired_later next l k)
  nothing_by false false l k counted next = ap (λ (a : Answer). a.added) (forgotten_later next k)

  pub nothing_again : HasCodesCounted setting.facts → later.facts ≡ setting.facts ++ (due_post setting post finding).added → (due_post later post later_finding).added ≡ []
  nothing_again counted next = nothing_by (tab_is_live later.moment accepted.known.opening) (tab_is_known later.moment accepted.known.opening) refl refl counted next

  -- ---- a post that completed the login

  record IsReadyFor (progress : Progress) (user : UserId) : Type 0 where
    levels : List ℕ
    is : progress ≡ progresses.Ready user levels

  ready_is : (progress : Progress) (user : UserId) → ready_user progress ≡ Some user → IsReadyFor progress user
  ready_is (progresses.Ready found levels) user h = let e : found ≡ user = cc in record { levels = levels; is = ap (λ (u : UserId). progresses.Ready u levels) e }
  ready_is (progresses.Asked asked) user h = absurd cc
  ready_is (progresses.Denied execution) user h = absurd cc
  ready_is (progresses.NotConfigured execution) user h = absurd cc
  ready_is progresses.DeadEnd user h = absurd cc
  ready_is (progresses.LevelMissed level) user h = absurd cc
  ready_is (progresses.Required own action) user h = absurd cc

  ready_again : tab_is_live later.moment accepted.known.opening ≡ true → (user : UserId) → ready_user (progress_of more setting.moment now) ≡ Some user
      → later.facts ≡ setting.facts ++ (due_post setting post finding).added → due_post later post later_finding ≡ refused_as_finished post.tab
  unfolding tab_answer progress_answer
  ready_again live user ready next =
      let found = ready_is (progress_of more setting.moment now) user ready in
      let added = ap (λ (p : Progress). more ++ (progress_answer more setting now p).added) found.is in
      in_its_tab (λ (tab : TabKey). due_post later post later_finding ≡ refused_as_finished tab) (again_completed live user found.levels found.is (facts_later next ∙ added))

  pub finished_again : (user : UserId) → ready_user (progress_of more setting.moment now) ≡ Some user → later.facts ≡ setting.facts ++ (due_post setting post finding).added
      → IsAnsweredAgain (due_post later post later_finding ≡ refused_as_finished post.tab) setting post later.moment (due_post later post later_finding)
  finished_again user ready next = answered_again (due_post later post later_finding ≡ refused_as_finished post.tab) (λ live. ready_again live user ready next) next

pub done_again : (setting : Setting) (post : Post) (finding : Finding) (user : UserId) (later : Setting) (later_finding : Finding)
    → done_for (due_post setting post finding).reply.what ≡ Some user → later.facts ≡ setting.facts ++ (due_post setting post finding).added
    → IsAnsweredAgain (due_post later post later_finding ≡ refused_as_finished post.tab) setting post later.moment (due_post later post later_finding)
done_again setting post finding user later later_finding h next =
    let a = answered setting post finding user h in
    finished_again setting post finding a.accepted later later_finding user a.done next
