-- No ask completes a tab that has completed after its opening.
use Rattle.std.proofs.Common.{◌≡◌, ℕ, Bool, true, false, ◌||◌, List, [], ◌∷◌, ◌++◌, Some, None, refl, sym, ap, subst, ◌∙◌, append_assoc}
use Rattle.std.specs.Prelude.{Option, Result, Ok, Err, fold, if◌then◌else◌}
use Rattle.std.specs.List.{All}
use Rattle.std.proofs.lemmas.List.{append-nil}
use Rattle.std.proofs.lemmas.List.Elements.{All-nil, All-cons, All-append, All-head, All-tail}
use Rattle.login_base.specs.IdText.{same_id}
use Rattle.login_base.specs.declared.id.Id.{Id}
use Rattle.login_base.specs.declared.id.RootKey.{RootKey}
use Rattle.login_base.specs.declared.id.SessionId.{SessionId}
use Rattle.login_base.specs.declared.id.TabKey.{TabKey}
use Rattle.login_base.specs.declared.id.UserId.{UserId}
use Rattle.realm_data.specs.declared.action.Action.{Action}
use Rattle.asks.specs.declared.ask.Ask.{Ask}
use Rattle.asks.specs.declared.ask.Ask.TheVariants as asks
use Rattle.asks.specs.declared.ask.NewTab.{NewTab}
use Rattle.asks.specs.declared.ask.Post.{Post}
use Rattle.asks.specs.declared.finding.Finding.{Finding}
use Rattle.facts.specs.declared.entry.Entry.{Entry}
use Rattle.facts.specs.declared.fact.Fact.{Fact}
use Rattle.facts.specs.declared.fact.Fact.TheVariants as events
use Rattle.facts.specs.declared.tabs.RootSession.{RootSession}
use Rattle.facts.specs.declared.tabs.TabState.{TabState}
use Rattle.facts.specs.Tabs.{tab_state, tab_after, no_tab, completed_after, live_session}
use Rattle.facts.proofs.PlacesLemmas.{fold_append}
use Rattle.hall_answers.specs.declared.answer.Answer.{Answer}
use Rattle.hall_answers.specs.declared.refusal.Refusal.{Refusal}
use Rattle.hall_answers.specs.declared.refusal.Refusal.TheVariants as refusals
use Rattle.hall_answers.specs.Refusals.{settled}
use Rattle.hall_answers.specs.Setting.{Setting, setting_at}
use Rattle.login_progress.specs.declared.known_tab.KnownTab.{KnownTab}
use Rattle.login_progress.specs.declared.progress.Progress.{Progress}
use Rattle.login_progress.specs.declared.progress.Progress.TheVariants as progresses
use Rattle.login_progress.specs.Progress.{progress_of, action_in}
use Rattle.tab_pages.specs.Pages.{session_for, beginning, levels_recorded, seen_now, completion_facts, completion, progress_answer, tab_answer, tab_answer_then, visit_answer, due_page}
use Rattle.tab_pages.specs.Visit.{check_tab, check_whole, check_unfinished, check_visit}
use Rattle.root_asks.specs.declared.place.Place.{Place}
use Rattle.root_asks.specs.NewTab.{check_new_tab, opening_fact, opening_facts, facts_opened, tab_opened, new_tab_answer, due_new_tab}
use Rattle.tab_asks.specs.declared.check.Check.{Check}
use Rattle.tab_asks.specs.declared.check.Check.TheVariants as checks
use Rattle.tab_asks.specs.declared.check.Credential.{Credential}
use Rattle.tab_asks.specs.declared.passing.Passing.{Passing}
use Rattle.tab_asks.specs.Forms.{evidence_of}
use Rattle.tab_asks.specs.Deeds.{deed_facts}
use Rattle.tab_asks.specs.Post.{check_post, check_form, accepted_facts, known_over, answer_to_accepted, page_again, shown_again, answer_to_check, post_where, post_by, post_in, due_post}
use Rattle.admin_asks.specs.Admin.{due_admin}
use Rattle.root_asks.specs.Logout.{due_logout}
use Rattle.token_asks.specs.Follow.{due_verify, due_reset}
use Rattle.login_hall.specs.Due.{due_ask}
use Rattle.login_hall.specs.Growth.{chronicle_of}
use Rattle.login_hall.specs.Legal.{LegalAfter}
use Rattle.login_hall.proofs.Pushes.{chronicle_of-push}
use Rattle.hall_laws.specs.CompletedOnce.{completes_next, completes_twice, AreCompletedOnce}
use Rattle.hall_laws.specs.Ready.{IsAccepted, facts_accepted, progress_at}
use Rattle.hall_laws.proofs.Added.{is_plain, plain_allows, admin_all, logout_all, verify_all, reset_all}
use Rattle.hall_laws.proofs.DeedFacts.{deeds_all}
use Rattle.hall_laws.proofs.EvidenceFacts.{evidence_all}
use Rattle.hall_laws.proofs.Evidencing.{same_is}
use Rattle.hall_laws.proofs.Gates.{first_passed, test_failed}
use Rattle.hall_laws.proofs.PostReadiness.{behind}
use Rattle.hall_laws.proofs.TabLives.{tab_known}
use Rattle.hall_laws.proofs.TabStates.{same_id-same}

-- ---- facts behind others

-- it completes no tab
abbrev IsPlain : Fact → Type 0
IsPlain (events.Completed tab user session moment) = ⊥
IsPlain fact = Unit {0}

opened_alone : (same : Bool) → (if same then false else false) ≡ false
opened_alone true = refl
opened_alone false = refl

next_alone : (tab : TabKey) (fact : Fact) → IsPlain fact → completes_next tab (fact ∷ []) ≡ false
unfolding completes_next
next_alone tab (events.Completed of user session moment) plain = absurd plain
next_alone tab (events.Opened root of version level life moment) plain = opened_alone (same_id of.0 tab.0)
next_alone tab fact plain = refl

next_plain : (tab : TabKey) (facts : List Fact) (fact : Fact) → IsPlain fact → completes_next tab (facts ++ fact ∷ []) ≡ completes_next tab facts
unfolding completes_next
next_plain tab [] fact plain = next_alone tab fact plain
next_plain tab (events.Opened root of version level life moment ∷ facts) fact plain = ap (λ (b : Bool). if same_id of.0 tab.0 then false else b) (next_plain tab facts fact plain)
next_plain tab (events.Completed of user session moment ∷ facts) fact plain = ap (λ (b : Bool). same_id of.0 tab.0 || b) (next_plain tab facts fact plain)
next_plain tab (old ∷ facts) fact plain = next_plain tab facts fact plain

twice_plain : (old : Fact) (facts : List Fact) (fact : Fact) → IsPlain fact → completes_twice old (facts ++ fact ∷ []) ≡ completes_twice old facts
twice_plain (events.Completed tab user session moment) facts fact plain = next_plain tab facts fact plain
twice_plain old facts fact plain = refl

twice_alone : (fact : Fact) → IsPlain fact → completes_twice fact [] ≡ false
twice_alone (events.Completed tab user session moment) plain = absurd plain
twice_alone fact plain = refl

pushed_one : (facts : List Fact) (fact : Fact) → IsPlain fact → AreCompletedOnce facts → AreCompletedOnce (facts ++ fact ∷ [])
unfolding AreCompletedOnce
pushed_one [] fact plain once = (twice_alone fact plain, tt)
pushed_one (old ∷ facts) fact plain once = (twice_plain old facts fact plain ∙ once.0, pushed_one facts fact plain once.1)

pushed_plain : (facts added : List Fact) → All IsPlain added → AreCompletedOnce facts → AreCompletedOnce (facts ++ added)
pushed_plain facts [] all once = subst AreCompletedOnce (sym (append-nil facts)) once
pushed_plain facts (fact ∷ added) all once =
    let first = pushed_one facts fact (All-head IsPlain fact added all) once in
    subst AreCompletedOnce (append_assoc facts (fact ∷ []) added) (pushed_plain (facts ++ fact ∷ []) added (All-tail IsPlain fact added all) first)

-- ---- a completion behind others

module _ (tab : TabKey) (user : UserId) (session : SessionId) (moment : ℕ) where
  abbrev ending : Fact
  ending = events.Completed tab user session moment

  abbrev Opened : List Fact → Type 0
  Opened facts = completes_next tab facts ≡ false → fold (completed_after tab) true facts ≡ false → completes_next tab (facts ++ ending ∷ []) ≡ false

  if_opened : (facts : List Fact) (same : Bool) → Opened facts → (if same then false else completes_next tab facts) ≡ false
      → fold (completed_after tab) (if same then false else true) facts ≡ false → (if same then false else completes_next tab (facts ++ ending ∷ [])) ≡ false
  if_opened facts true more h k = refl
  if_opened facts false more h k = more h k

  if_ended : (facts : List Fact) (same : Bool) → Opened facts → (same || completes_next tab facts) ≡ false
      → fold (completed_after tab) (if same then true else true) facts ≡ false → (same || completes_next tab (facts ++ ending ∷ [])) ≡ false
  if_ended facts true more h k = absurd cc
  if_ended facts false more h k = more h k

  -- of a tab that was opened since it completed
  next_opened : (facts : List Fact) → completes_next tab facts ≡ false → fold (completed_after tab) true facts ≡ false → completes_next tab (facts ++ ending ∷ []) ≡ false
  unfolding completes_next
  next_opened [] h k = absurd cc
  next_opened (events.Opened root of version level life at ∷ facts) h k = if_opened facts (same_id of.0 tab.0) (next_opened facts) h k
  next_opened (events.Completed of own by at ∷ facts) h k = if_ended facts (same_id of.0 tab.0) (next_opened facts) h k
  next_opened (fact ∷ facts) h k = next_opened facts h k

  -- it isn't that of another tab
  next_other : (of : TabKey) (facts : List Fact) → same_id tab.0 of.0 ≡ false → completes_next of (facts ++ ending ∷ []) ≡ completes_next of facts
  unfolding completes_next
  next_other of [] h = rw h refl
  next_other of (events.Opened root other version level life at ∷ facts) h = ap (λ (b : Bool). if same_id other.0 of.0 then false else b) (next_other of facts h)
  next_other of (events.Completed other own by at ∷ facts) h = ap (λ (b : Bool). same_id other.0 of.0 || b) (next_other of facts h)
  next_other of (fact ∷ facts) h = next_other of facts h

  tab_is : (of : TabKey) → same_id of.0 tab.0 ≡ true → of ≡ tab
  tab_is of h = ap (λ (id : Id). let key : TabKey = record { 0 = id } in key) (same_is of.0 tab.0 h)

  other_way : (of : TabKey) (same : Bool) → same_id of.0 tab.0 ≡ false → same_id tab.0 of.0 ≡ same → same_id tab.0 of.0 ≡ false
  other_way of false h k = k
  other_way of true h k =
      let is : tab.0 ≡ of.0 = same_is tab.0 of.0 k in
      let again : same_id of.0 tab.0 ≡ true = ap (λ (id : Id). same_id of.0 id) is ∙ same_id-same of.0 in
      absurd cc

  if_same : (of : TabKey) (facts : List Fact) (own same : Bool) → same_id of.0 tab.0 ≡ same → completes_next of facts ≡ false
      → fold (completed_after tab) (if same then true else own) facts ≡ false → completes_next of (facts ++ ending ∷ []) ≡ false
  if_same of facts own true e h k =
      let is = tab_is of e in
      subst (λ (key : TabKey). completes_next key (facts ++ ending ∷ []) ≡ false) (sym is)
      (next_opened facts (subst (λ (key : TabKey). completes_next key facts ≡ false) is h) k)
  if_same of facts own false e h k = next_other of facts (other_way of (same_id tab.0 of.0) e refl) ∙ h

  twice_ended : (old : Fact) (facts : List Fact) (own : Bool) → completes_twice old facts ≡ false → fold (completed_after tab) (completed_after tab own old) facts ≡ false
      → completes_twice old (facts ++ ending ∷ []) ≡ false
  twice_ended (events.Completed of by at when) facts own h k = if_same of facts own (same_id of.0 tab.0) refl h k
  twice_ended old facts own h k = refl

  pub pushed_ended : (facts : List Fact) (own : Bool) → AreCompletedOnce facts → fold (completed_after tab) own facts ≡ false → AreCompletedOnce (facts ++ ending ∷ [])
  unfolding AreCompletedOnce completes_next
  pushed_ended [] own once k = (refl, tt)
  pushed_ended (old ∷ facts) own once k = (twice_ended old facts own once.0 k, pushed_ended facts (completed_after tab own old) once.1 k)

-- ---- whether a tab has completed

completed_fold : (root : RootKey) (tab : TabKey) (state : TabState) (facts : List Fact) → (fold (tab_after root tab) state facts).completed ≡ fold (completed_after tab) state.completed facts
completed_fold root tab state [] = refl
completed_fold root tab state (fact ∷ facts) = completed_fold root tab (tab_after root tab state fact) facts

completed_is : (root : RootKey) (tab : TabKey) (facts : List Fact) → (tab_state root tab facts).completed ≡ fold (completed_after tab) false facts
unfolding tab_state
completed_is root tab facts = completed_fold root tab no_tab facts

-- it neither opens a tab nor completes one
abbrev Leaves : TabKey → Fact → Type 0
Leaves tab fact = (own : Bool) → completed_after tab own fact ≡ own

left : (tab : TabKey) (own : Bool) (facts : List Fact) → All (Leaves tab) facts → fold (completed_after tab) own facts ≡ own
left tab own [] all = refl
left tab own (fact ∷ facts) all =
    ap (λ (b : Bool). fold (completed_after tab) b facts) (All-head (Leaves tab) fact facts all own) ∙ left tab own facts (All-tail (Leaves tab) fact facts all)

-- ---- what a tab is answered

module _ (P : Fact → Type 0) (begins : (session : SessionId) (root : Option RootKey) (user : UserId) (moment idle most : ℕ) → P (events.Session session root user moment idle most))
    (reaches : (session : SessionId) (level moment : ℕ) → P (events.Level session level moment)) (sees : (session : SessionId) (moment : ℕ) → P (events.Seen session moment)) where
  begun_all : (setting : Setting) (session : SessionId) (root : RootKey) (user : UserId) (live : Option RootSession) → All P (beginning setting session root user live)
  begun_all setting session root user (Some own) = All-nil P
  begun_all setting session root user None =
      let idle = setting.realm.session.idle in
      let most = setting.realm.session.max in
      All-cons P (events.Session session (Some root) user setting.moment idle most) [] (begins session (Some root) user setting.moment idle most) (All-nil P)

  levels_all : (setting : Setting) (session : SessionId) (levels : List ℕ) → All P (levels_recorded setting session levels)
  levels_all setting session [] = All-nil P
  levels_all setting session (level ∷ levels) =
      All-cons P (events.Level session level setting.moment) (levels_recorded setting session levels) (reaches session level setting.moment) (levels_all setting session levels)

  seen_all : (setting : Setting) (live : Option RootSession) → All P (seen_now setting live)
  seen_all setting None = All-nil P
  seen_all setting (Some own) = All-cons P (events.Seen own.session setting.moment) [] (sees own.session setting.moment) (All-nil P)

  -- what stands before the end of a completion
  before_end : (setting : Setting) (session : SessionId) (root : RootKey) (user : UserId) (levels : List ℕ) (live : Option RootSession)
      → All P ((beginning setting session root user live ++ levels_recorded setting session levels) ++ seen_now setting live)
  before_end setting session root user levels live =
      let begun = beginning setting session root user live in
      let reached = levels_recorded setting session levels in
      All-append P (begun ++ reached) (seen_now setting live)
      (All-append P begun reached (begun_all setting session root user live) (levels_all setting session levels)) (seen_all setting live)

module _ (facts : List Fact) (setting : Setting) (known : KnownTab) (once : AreCompletedOnce facts) (unfinished : fold (completed_after known.tab) false facts ≡ false) where
  ended_once : (user : UserId) (levels : List ℕ) (session : SessionId) (live : Option RootSession) → AreCompletedOnce (facts ++ completion_facts setting known user levels session live)
  ended_once user levels session live =
      let front = (beginning setting session known.root user live ++ levels_recorded setting session levels) ++ seen_now setting live in
      let ending = events.Completed known.tab user session setting.moment in
      let plain = before_end IsPlain (λ s r u m i t. tt) (λ s l m. tt) (λ s m. tt) setting session known.root user levels live in
      let leaves = before_end (Leaves known.tab) (λ s r u m i t own. refl) (λ s l m own. refl) (λ s m own. refl) setting session known.root user levels live in
      let still : fold (completed_after known.tab) false (facts ++ front) ≡ false =
      fold_append (completed_after known.tab) false facts front ∙ left known.tab (fold (completed_after known.tab) false facts) front leaves ∙ unfinished in
      subst AreCompletedOnce (append_assoc facts front (ending ∷ []))
      (pushed_ended known.tab user session setting.moment (facts ++ front) false (pushed_plain facts front plain once) still)

  nothing_once : AreCompletedOnce (facts ++ [])
  nothing_once = pushed_plain facts [] (All-nil IsPlain) once

  progress_once : (progress : Progress) → AreCompletedOnce (facts ++ (progress_answer facts setting known progress).added)
  unfolding progress_answer completion
  progress_once (progresses.Ready user levels) =
      let live = live_session setting.moment known.state in
      ended_once user levels (session_for facts setting.draws live) live
  progress_once (progresses.Asked asked) = pushed_one facts _ tt once
  progress_once (progresses.Denied execution) = nothing_once
  progress_once (progresses.NotConfigured execution) = nothing_once
  progress_once progresses.DeadEnd = nothing_once
  progress_once (progresses.LevelMissed level) = nothing_once
  progress_once (progresses.Required user action) = pushed_one facts _ tt once

  pub tab_once : AreCompletedOnce (facts ++ (tab_answer facts setting known).added)
  unfolding tab_answer
  tab_once = progress_once (progress_of facts setting.moment known)

settled_once : {A : Type 0} (facts old : List Fact) (tab : Option TabKey) (answer : A → Answer) (result : Result A Refusal) → AreCompletedOnce old
    → ((x : A) → result ≡ Ok x → AreCompletedOnce (old ++ (answer x).added)) → AreCompletedOnce (old ++ (settled facts tab answer result).added)
settled_once facts old tab answer (Ok x) once each = each x refl
settled_once facts old tab answer (Err refusal) once each = pushed_plain old [] (All-nil IsPlain) once

visit_once : (facts : List Fact) (setting : Setting) (known : KnownTab) → AreCompletedOnce facts → known.state ≡ tab_state known.root known.tab facts
    → AreCompletedOnce (facts ++ (visit_answer facts setting known).added)
unfolding visit_answer check_visit
visit_once facts setting known once is_state =
    settled_once facts facts (Some known.tab) (tab_answer_then facts setting known) (check_visit facts setting.moment known) once (λ may is.
    let first = first_passed (check_whole setting.moment known) _ may is in
    let second = first_passed (check_unfinished known) _ may first.1 in
    let unfinished = test_failed known.state.completed refusals.Finished second.0 in
    let flag = sym (ap (λ (s : TabState). s.completed) is_state ∙ completed_is known.root known.tab facts) ∙ unfinished in
    tab_once facts setting known once flag)

-- ---- asks

page_once : (setting : Setting) (root : Option RootKey) (tab : TabKey) → AreCompletedOnce setting.facts → AreCompletedOnce (setting.facts ++ (due_page setting root tab).added)
unfolding due_page
page_once setting root tab once =
    let facts = setting.facts in
    settled_once facts facts None (visit_answer facts setting) (check_tab facts setting.moment root tab) once (λ known is.
    visit_once facts setting known once (tab_known facts setting.moment root tab known is).is_state)

opening_plain : (setting : Setting) (place : Place) → All IsPlain (opening_facts setting place)
opening_plain setting place =
    let seen = seen_now setting place.live in
    All-append IsPlain seen (opening_fact setting place ∷ [])
    (seen_all IsPlain (λ s r u m i t. tt) (λ s l m. tt) (λ s m. tt) setting place.live) (All-cons IsPlain (opening_fact setting place) [] tt (All-nil IsPlain))

open_once : (setting : Setting) (new : NewTab) → AreCompletedOnce setting.facts → AreCompletedOnce (setting.facts ++ (due_new_tab setting new).added)
unfolding due_new_tab new_tab_answer
open_once setting new once =
    settled_once setting.facts setting.facts None (new_tab_answer setting) (check_new_tab setting new) once (λ place is.
    let opened = opening_facts setting place in
    let more = facts_opened setting place in
    let known = tab_opened more setting place in
    subst AreCompletedOnce (append_assoc setting.facts opened (visit_answer more setting known).added)
    (visit_once more setting known (pushed_plain setting.facts opened (opening_plain setting place) once) refl))

shown_plain : (setting : Setting) (known : KnownTab) (action : Option Action) → All IsPlain (page_again setting known action ∷ [])
shown_plain setting known None = All-cons IsPlain (page_again setting known None) [] tt (All-nil IsPlain)
shown_plain setting known (Some of) = All-cons IsPlain (page_again setting known (Some of)) [] tt (All-nil IsPlain)

again_plain : (setting : Setting) (known : KnownTab) (action : Option Action) (user : Option UserId) → All IsPlain (shown_again setting known action user)
again_plain setting known action None = shown_plain setting known action
again_plain setting known action (Some own) = All-cons IsPlain (events.Failed own setting.moment) (page_again setting known action ∷ []) tt (shown_plain setting known action)

module _ (setting : Setting) (post : Post) (finding : Finding) (once : AreCompletedOnce setting.facts) where
  accepted_plain : (known : KnownTab) (user : UserId) (credential : Credential) → All IsPlain (accepted_facts setting known post.form finding user credential)
  accepted_plain known user credential =
      let passing : Passing = record { tab = known.tab; user = user; credential = credential; moment = setting.moment } in
      let evidence = evidence_of passing post.form in
      All-append IsPlain evidence (deed_facts setting known post.form finding user credential.spent)
      (evidence_all IsPlain (λ p. tt) (λ p execution kind. tt) (λ serial step. tt) (λ serial number. tt) passing post.form)
      (deeds_all IsPlain (λ own kind serial secret by. tt) (λ own action. tt) (λ serial step. tt) setting known post.form finding user credential.spent)

  accepted_once : (accepted : IsAccepted setting post finding) → AreCompletedOnce (setting.facts ++ (answer_to_accepted setting accepted.known post.form finding accepted.user accepted.credential).added)
  unfolding answer_to_accepted
  accepted_once accepted =
      let known = accepted.known in
      let b = behind setting post finding accepted in
      let added = accepted_facts setting known post.form finding accepted.user accepted.credential in
      let more = facts_accepted setting post finding accepted in
      let now = known_over known more in
      let flag = sym (completed_is known.root known.tab more) ∙ ap (λ (s : TabState). s.completed) b.is_state ∙ b.current.unfinished in
      subst AreCompletedOnce (append_assoc setting.facts added (tab_answer more setting now).added)
      (tab_once more setting now (pushed_plain setting.facts added (accepted_plain known accepted.user accepted.credential) once) flag)

  again_once : (known : KnownTab) (action : Option Action) (user : Option UserId) → AreCompletedOnce (setting.facts ++ shown_again setting known action user)
  again_once known action user = pushed_plain setting.facts (shown_again setting known action user) (again_plain setting known action user) once

  check_once : (known : KnownTab) (named : Option UserId) (check : Check) → check_tab setting.facts setting.moment post.root post.tab ≡ Ok known
      → check_post setting.facts setting.moment known post ≡ Ok named → check_form setting known (progress_at setting known) named post.form finding ≡ Ok check
      → AreCompletedOnce (setting.facts ++ (answer_to_check setting known (progress_at setting known) post.form finding check).added)
  unfolding answer_to_check
  check_once known named (checks.Fits user credential) is_known is_named fits =
      accepted_once (record { known = known; is_known = is_known; named = named; is_named = is_named; user = user; credential = credential; fits = fits })
  check_once known named (checks.Wrong user) is_known is_named fits = again_once known (action_in (progress_at setting known)) user
  check_once known named (checks.WrongCode user) is_known is_named fits = again_once known (action_in (progress_at setting known)) user
  check_once known named (checks.SpentCode step) is_known is_named fits = again_once known (action_in (progress_at setting known)) None

  post_once : AreCompletedOnce (setting.facts ++ (due_post setting post finding).added)
  unfolding due_post post_in post_where
  post_once =
      let facts = setting.facts in
      settled_once facts facts None (post_in setting post finding) (check_tab facts setting.moment post.root post.tab) once (λ known is_known.
      settled_once facts facts (Some known.tab) (post_by setting post.form finding known) (check_post facts setting.moment known post) once (λ named is_named.
      let progress = progress_at setting known in
      settled_once facts facts (Some known.tab) (answer_to_check setting known progress post.form finding) (check_form setting known progress named post.form finding) once (λ check is.
      check_once known named check is_known is_named is)))

plain : (fact : Fact) → is_plain fact ≡ true → IsPlain fact
plain (events.Completed tab user session moment) h = absurd cc
plain fact h = tt

pub ask_completes_once : (setting : Setting) (ask : Ask) (finding : Finding) → AreCompletedOnce setting.facts → AreCompletedOnce (setting.facts ++ (due_ask setting ask finding).added)
ask_completes_once setting (asks.Bad at) finding once = pushed_plain setting.facts [] (All-nil IsPlain) once
ask_completes_once setting (asks.NewTab new) finding once = open_once setting new once
ask_completes_once setting (asks.Page root tab) finding once = page_once setting root tab once
ask_completes_once setting (asks.Post post) finding once = post_once setting post finding once
ask_completes_once setting (asks.Verify key) finding once =
    pushed_plain setting.facts (due_verify setting key).added (verify_all IsPlain (plain_allows IsPlain plain) setting key tt) once
ask_completes_once setting (asks.Reset key password) finding once =
    pushed_plain setting.facts (due_reset setting key finding).added (reset_all IsPlain (plain_allows IsPlain plain) setting key finding tt) once
ask_completes_once setting (asks.Logout root) finding once =
    pushed_plain setting.facts (due_logout setting root).added (logout_all IsPlain (plain_allows IsPlain plain) setting root) once
ask_completes_once setting (asks.Admin access verb) finding once =
    pushed_plain setting.facts (due_admin setting access verb finding).added (admin_all IsPlain (plain_allows IsPlain plain) setting access verb finding) once

-- ---- histories

pub completed_through : (base : List Fact) (front more : List Entry) → LegalAfter base front more → AreCompletedOnce (chronicle_of base front) → AreCompletedOnce (chronicle_of base (front ++ more))
unfolding LegalAfter
completed_through base front [] legal once = subst (λ (f : List Entry). AreCompletedOnce (chronicle_of base f)) (sym (append-nil front)) once
completed_through base front (entry ∷ more) legal once =
    let facts = chronicle_of base front in
    let setting = setting_at facts entry.moment entry.draws in
    let after = ask_completes_once setting entry.solved.ask entry.solved.finding once in
    let grown = subst (λ (added : List Fact). AreCompletedOnce (facts ++ added)) (sym legal.0.added) after in
    let pushed = subst AreCompletedOnce (sym (chronicle_of-push base front entry)) grown in
    subst (λ (f : List Entry). AreCompletedOnce (chronicle_of base f)) (append_assoc front (entry ∷ []) more) (completed_through base (front ++ entry ∷ []) more legal.1 pushed)
