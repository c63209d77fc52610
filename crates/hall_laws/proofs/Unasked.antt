-- A form isn't asked again once its execution is passed.
use Rattle.std.proofs.Common.{◌≡◌, ℕ, Bool, true, false, ◌&&◌, ◌||◌, List, [], ◌∷◌, Some, None, refl, sym, ap, subst, ◌∙◌}
use Rattle.std.specs.Prelude.{Option, Ok, find, if◌then◌else◌}
use Rattle.std.specs.List.{All}
use Rattle.std.specs.Option.{option_or}
use Rattle.std.specs.Str.{bytes_eq}
use Rattle.std.proofs.lemmas.Bool.{and_right, or_from}
use Rattle.std.proofs.lemmas.List.Elements.{All-head, All-tail}
use Rattle.std.proofs.lemmas.List.Folds.{list_any-append}
use Rattle.login_base.specs.declared.id.UserId.{UserId}
use Rattle.flow_tree.specs.declared.exec.Exec.{Exec}
use Rattle.flow_tree.specs.declared.exec.Kind.{Kind}
use Rattle.flow_tree.specs.declared.exec.Kind.TheVariants as kinds
use Rattle.flow_tree.specs.Flow.{has, flow_holds, flow_needs}
use Rattle.flow_tree.specs.Places.{places, kind_among, same_kind}
use Rattle.flow_truths.specs.Granted.{is_granted, levels_reached}
use Rattle.flow_truths.specs.Truth.{cookie_holds}
use Rattle.realm_data.specs.declared.action.Action.{Action}
use Rattle.realm_data.specs.declared.realm_parts.RealmParts.{RealmParts}
use Rattle.asks.specs.declared.ask.Form.{Form}
use Rattle.asks.specs.declared.ask.Form.TheVariants as forms
use Rattle.facts.specs.declared.fact.Fact.{Fact}
use Rattle.asks.specs.declared.finding.Finding.{Finding}
use Rattle.asks.specs.declared.reply.Need.{Need}
use Rattle.facts.specs.declared.tabs.Page.{Page}
use Rattle.facts.specs.declared.tabs.RootSession.{RootSession}
use Rattle.facts.specs.declared.tabs.TabState.{TabState}
use Rattle.facts.specs.declared.user_password.UserPassword.{UserPassword}
use Rattle.facts.specs.Accounts.{account_named}
use Rattle.facts.specs.Actions.{is_pending, in_order, first_pending}
use Rattle.facts.specs.Evidence.{has_evidence}
use Rattle.facts.specs.Realms.{realm_of}
use Rattle.facts.specs.Tabs.{is_live, live_among, live_session, user_among, who_of}
use Rattle.login_progress.specs.declared.login.Login.{Login}
use Rattle.login_progress.specs.declared.known_tab.KnownTab.{KnownTab}
use Rattle.login_progress.specs.declared.progress.Progress.{Progress}
use Rattle.login_progress.specs.declared.progress.Progress.TheVariants as progresses
use Rattle.login_progress.specs.Account.{account_of}
use Rattle.login_progress.specs.Asked.{can_answer, need_of, asked_as, asked_of, blocked, first_denied, first_not_configured, denied_or, not_configured}
use Rattle.login_progress.specs.Evidence.{is_posted}
use Rattle.login_progress.specs.Login.{login_in, truths_in}
use Rattle.login_progress.specs.Progress.{asked_or, lacking, unless_pending, holding, progress_in, progress_of, asked_in, action_in}
use Rattle.tab_asks.specs.declared.check.Check.TheVariants as checks
use Rattle.hall_answers.specs.Setting.{Setting}
use Rattle.tab_asks.specs.declared.check.Credential.{Credential}
use Rattle.tab_asks.specs.Forms.{named_by, is_need, is_of}
use Rattle.tab_asks.specs.Deeds.{does, does_asked}
use Rattle.tab_asks.specs.Post.{has_need, is_asked, check_with}
use Rattle.tab_pages.specs.Offering.{is_shown}
use Rattle.tab_pages.specs.Visit.{same_user, user_of}
use Rattle.hall_laws.proofs.CodeChecks.{code_fits, setup_fits, deed_fits}
use Rattle.hall_laws.proofs.EvidenceCounts.{HasPassed}
use Rattle.hall_laws.proofs.Gates.{same_is}
use Rattle.hall_laws.proofs.PassedLeaves.{id_is, kind_is, leaf_true, passed_counts, posted_true}
use Rattle.hall_laws.proofs.PostReadiness.{name_fits, password_fits}
use Rattle.hall_laws.proofs.Readiness.{under_realm, under_is}
use Rattle.hall_laws.proofs.TabStates.{with_name}
use Rattle.hall_laws.proofs.UnneededTruths.{IsLacking, needs_spare}

-- ---- whose login it is later

abbrev live_if : Bool → RootSession → Option RootSession
live_if live own = if live then Some own else None

same_if : (live still : Bool) (own : RootSession) (named : Option UserId) (user found : UserId)
    → same_user named (user_of (live_if live own)) ≡ Ok tt → same_user named (user_of (live_if still own)) ≡ Ok tt
    → user_among (live_if live own) named ≡ Some user → user_among (live_if still own) named ≡ Some found → found ≡ user
same_if true true own named user found before after who is = cc
same_if false false own named user found before after who is = cc
same_if true false own None user found before after who is = absurd cc
same_if true false own (Some name) user found before after who is = let e = same_is name own.user before in cc
same_if false true own None user found before after who is = absurd cc
same_if false true own (Some name) user found before after who is = let e = same_is name own.user after in cc

-- where the named user was the session's both times, a login is the same user's
same_later : (own : Option RootSession) (moment later : ℕ) (named : Option UserId) (user found : UserId)
    → same_user named (user_of (live_among moment own)) ≡ Ok tt → same_user named (user_of (live_among later own)) ≡ Ok tt
    → user_among (live_among moment own) named ≡ Some user → user_among (live_among later own) named ≡ Some found → found ≡ user
same_later None moment later named user found before after who is = cc
same_later (Some own) moment later named user found before after who is = same_if (is_live moment own) (is_live later own) own named user found before after who is

named_who : (live : Option RootSession) (named : Option UserId) (user : UserId) → named ≡ Some user → same_user named (user_of live) ≡ Ok tt → user_among live named ≡ Some user
named_who None named user is same = is
named_who (Some own) named user is same = ap Some (sym (same_is user own.user (subst (λ (n : Option UserId). same_user n (Some own.user) ≡ Ok tt) is same)))

named_known : (live : Option RootSession) (named : Option UserId) (user : UserId) → named ≡ Some user → user_among live named ≡ None → ⊥
named_known None named user is none = cc
named_known (Some own) named user is none = cc

-- ---- neither a password nor a code is asked of nobody

module _ (login : Login) (nobody : login.view.account ≡ None) where
  unasked_password : (execution password id : List ℕ) (kind : Option Kind) → has_need (asked_as login id kind) (forms.Password execution password) ≡ false
  unasked_password execution password id None = refl
  unasked_password execution password id (Some kinds.Allow) = refl
  unasked_password execution password id (Some kinds.Deny) = refl
  unasked_password execution password id (Some kinds.Cookie) = refl
  unasked_password execution password id (Some kinds.Username) = ap (λ b. b || false) (and_right (bytes_eq id execution) false refl)
  unasked_password execution password id (Some kinds.Form) = ap (λ b. b || false) (and_right (bytes_eq id execution) false refl)
  unasked_password execution password id (Some kinds.Password) = rw nobody refl
  unasked_password execution password id (Some kinds.Otp) = rw nobody refl
  unasked_password execution password id (Some kinds.Recovery) = rw nobody refl

  unasked_value : (execution value id : List ℕ) (kind : Option Kind) → has_need (asked_as login id kind) (forms.Value execution value) ≡ false
  unasked_value execution value id None = refl
  unasked_value execution value id (Some kinds.Allow) = refl
  unasked_value execution value id (Some kinds.Deny) = refl
  unasked_value execution value id (Some kinds.Cookie) = refl
  unasked_value execution value id (Some kinds.Username) = ap (λ b. (b || b) || false) (and_right (bytes_eq id execution) false refl)
  unasked_value execution value id (Some kinds.Form) = ap (λ b. (b || b) || false) (and_right (bytes_eq id execution) false refl)
  unasked_value execution value id (Some kinds.Password) = rw nobody refl
  unasked_value execution value id (Some kinds.Otp) = rw nobody refl
  unasked_value execution value id (Some kinds.Recovery) = rw nobody refl

-- ---- what asks none of the needs

-- a need that isn't true asks no such form
abbrev Lacks : Login → List Exec → List (List ℕ) → Form → Type 0
Lacks login tree held form = (id : List ℕ) (kind : Option Kind) → kind_among id (places tree) ≡ kind → has held id ≡ false → has_need (asked_as login id kind) form ≡ false

unasked : (login : Login) (tree : List Exec) (held needs : List (List ℕ)) (form : Form) → Lacks login tree held form → All (IsLacking held) needs → has_need (asked_of tree login needs) form ≡ false
unfolding asked_of
unasked login tree held [] form lacks all = refl
unasked login tree held (id ∷ needs) form lacks all =
    let kind = kind_among id (places tree) in
    list_any-append (λ (need : Need). is_of need form) (asked_as login id kind) (asked_of tree login needs)
    ∙ ap (λ b. b || has_need (asked_of tree login needs) form) (lacks id kind refl (All-head (IsLacking held) id needs all))
    ∙ unasked login tree held needs form lacks (All-tail (IsLacking held) id needs all)

asked_in_or : (asked : List Need) (other : Progress) → asked_in other ≡ [] → asked_in (asked_or asked other) ≡ asked
asked_in_or [] other h = h
asked_in_or (need ∷ asked) other h = refl

blocked_asks : (denied missing : Option (List ℕ)) → asked_in (denied_or denied (not_configured missing)) ≡ []
blocked_asks (Some id) missing = refl
blocked_asks None None = refl
blocked_asks None (Some id) = refl

lacking_asks : (login : Login) (tree : List Exec) (needs : List (List ℕ)) → asked_in (lacking login tree needs) ≡ asked_of tree login needs
unfolding blocked
lacking_asks login tree needs =
    asked_in_or (asked_of tree login needs) (blocked tree login.view.account needs)
    (blocked_asks (first_denied tree needs) (first_not_configured tree login.view.account needs))

pending_asks : (first : Option Action) (user : UserId) (levels : List ℕ) → asked_in (unless_pending first user levels) ≡ []
pending_asks None user levels = refl
pending_asks (Some action) user levels = refl

granted_asks : (granted : Bool) (first : Option Action) (user : UserId) (levels : List ℕ) (level : ℕ)
    → asked_in (if granted then unless_pending first user levels else progresses.LevelMissed level) ≡ []
granted_asks true first user levels level = pending_asks first user levels
granted_asks false first user levels level = refl

holding_asks : (facts : List Fact) (login : Login) (held : List (List ℕ)) (tree : List Exec) (who : Option UserId) → asked_in (holding facts login held tree who) ≡ []
holding_asks facts login held tree None = refl
holding_asks facts login held tree (Some user) =
    granted_asks (is_granted login.view held tree) (first_pending user facts) user (levels_reached held login.view.level tree) login.view.level

holds_unasked : (holds : Bool) (one other : Progress) (form : Form) → asked_in one ≡ [] → has_need (asked_in other) form ≡ false → has_need (asked_in (if holds then one else other)) form ≡ false
holds_unasked true one other form nothing h = ap (λ asked. has_need asked form) nothing
holds_unasked false one other form nothing h = h

progress_lacks : (facts : List Fact) (moment : ℕ) (known : KnownTab) (who : Option UserId) (realm : Option RealmParts) (form : Form)
    → ((tree : List Exec) → Lacks (login_in facts moment known who tree) tree (truths_in facts moment known who tree) form)
    → has_need (asked_in (under_realm facts moment known who realm)) form ≡ false
unfolding progress_in
progress_lacks facts moment known who None form lacks = refl
progress_lacks facts moment known who (Some realm) form lacks =
    let tree = realm.flow in
    let login = login_in facts moment known who tree in
    let held = truths_in facts moment known who tree in
    let needs = flow_needs held tree in
    holds_unasked (flow_holds held tree) (holding facts login held tree who) (lacking login tree needs) form (holding_asks facts login held tree who)
    (ap (λ asked. has_need asked form) (lacking_asks login tree needs) ∙ unasked login tree held needs form (lacks tree) (needs_spare held tree))

-- ---- what is passed isn't asked

module _ (facts : List Fact) (moment : ℕ) (known : KnownTab) (user : UserId) (tree : List Exec) where
  abbrev login : Login
  login = login_in facts moment known (Some user) tree

  abbrev held : List (List ℕ)
  held = truths_in facts moment known (Some user) tree

  -- a passed execution that is given in posts is true
  passed_true : (id : List ℕ) (kind : Kind) → is_posted kind ≡ true → has_evidence known.tab user id facts ≡ true → kind_among id (places tree) ≡ Some kind → has held id ≡ true
  unfolding login_in
  passed_true id kind posted evidence found =
      leaf_true login.view tree id kind found
      (posted_true login.view (cookie_holds login.view tree) id kind posted (passed_counts facts known.tab user id kind posted evidence tree found))

  other_need : (need : Need) (execution : List ℕ) (kind : Kind) (named of_kind : Bool) → is_posted kind ≡ true → has_evidence known.tab user execution facts ≡ true
      → kind_among need.id (places tree) ≡ Some need.kind → has held need.id ≡ false
      → bytes_eq need.id execution ≡ named → same_kind need.kind kind ≡ of_kind → (named && of_kind) ≡ false
  other_need need execution kind false of_kind posted evidence found lacking n k = refl
  other_need need execution kind true false posted evidence found lacking n k = refl
  other_need need execution kind true true posted evidence found lacking n k =
      let e = id_is need.id execution n in
      let here = subst (λ (id : List ℕ). kind_among id (places tree) ≡ Some need.kind) e found ∙ ap Some (kind_is need.kind kind k) in
      let held_so = passed_true execution kind posted evidence here in
      let lacking_so = subst (λ (id : List ℕ). has held id ≡ false) e lacking in
      absurd cc

  no_need : (need : Need) (execution : List ℕ) (kind : Kind) → is_posted kind ≡ true → has_evidence known.tab user execution facts ≡ true
      → kind_among need.id (places tree) ≡ Some need.kind → has held need.id ≡ false → is_need need execution kind ≡ false
  no_need need execution kind posted evidence found lacking = other_need need execution kind _ _ posted evidence found lacking refl refl

  no_form : (need : Need) (form : Form) → HasPassed facts known.tab user form → kind_among need.id (places tree) ≡ Some need.kind → has held need.id ≡ false → is_of need form ≡ false
  no_form need (forms.Username execution name) passed found lacking = no_need need execution kinds.Username refl (passed execution refl) found lacking
  no_form need (forms.Password execution given) passed found lacking = no_need need execution kinds.Password refl (passed execution refl) found lacking
  no_form need (forms.NamePassword execution name given) passed found lacking = no_need need execution kinds.Form refl (passed execution refl) found lacking
  no_form need (forms.Value execution value) passed found lacking =
      or_from (is_need need execution kinds.Otp) (is_need need execution kinds.Recovery)
      (no_need need execution kinds.Otp refl (passed execution refl) found lacking) (no_need need execution kinds.Recovery refl (passed execution refl) found lacking)
  no_form need forms.Terms passed found lacking = refl
  no_form need (forms.UpdatePassword given) passed found lacking = refl
  no_form need (forms.ConfigureOtp value) passed found lacking = refl
  no_form need forms.RecoveryCodes passed found lacking = refl
  no_form need forms.VerifyEmail passed found lacking = refl

  pub passed_lacks : (form : Form) → HasPassed facts known.tab user form → Lacks login tree held form
  passed_lacks form passed id None found lacking = refl
  passed_lacks form passed id (Some kind) found lacking = by_test (can_answer login.view.account kind)
    where
      by_test : (b : Bool) → has_need (if b then need_of login.next_code id kind ∷ [] else []) form ≡ false
      by_test true = ap (λ x. x || false) (no_form (need_of login.next_code id kind) form passed found lacking)
      by_test false = refl

-- ---- what was passed before isn't asked later

never_asked : (asked : List Need) (form : Form) → ((need : Need) → is_of need form ≡ false) → has_need asked form ≡ false
never_asked [] form h = refl
never_asked (need ∷ asked) form h = rw (h need) (never_asked asked form h)

-- whose a post is: it names the user, or gives a password or a code of the one whose login it is
abbrev pub IsPostOf : UserId → ℕ → TabState → Form → Type 0
IsPostOf user moment state (forms.Username execution name) = state.named ≡ Some user
IsPostOf user moment state (forms.NamePassword execution name password) = state.named ≡ Some user
IsPostOf user moment state (forms.Password execution password) = who_of moment state ≡ Some user
IsPostOf user moment state (forms.Value execution value) = who_of moment state ≡ Some user
IsPostOf user moment state forms.Terms = who_of moment state ≡ Some user
IsPostOf user moment state (forms.UpdatePassword password) = who_of moment state ≡ Some user
IsPostOf user moment state (forms.ConfigureOtp value) = who_of moment state ≡ Some user
IsPostOf user moment state forms.RecoveryCodes = who_of moment state ≡ Some user
IsPostOf user moment state forms.VerifyEmail = ⊥

pub fits_post_of : (setting : Setting) (known : KnownTab) (asked : List Need) (password : Option UserPassword) (form : Form) (finding : Finding) (user : UserId) (credential : Credential)
    → check_with setting known asked (named_by setting.facts form) (who_of setting.moment known.state) password form finding ≡ checks.Fits user credential
    → IsPostOf user setting.moment (with_name known.state (named_by setting.facts form)) form
fits_post_of setting known asked password (forms.Username execution name) finding user credential h = ap (λ (n : Option UserId). option_or n known.state.named) (name_fits (account_named name setting.facts) user credential h)
fits_post_of setting known asked password (forms.NamePassword execution name given) finding user credential h = ap (λ (n : Option UserId). option_or n known.state.named) (password_fits (account_named name setting.facts) password finding user credential h)
fits_post_of setting known asked password (forms.Password execution given) finding user credential h = password_fits (who_of setting.moment known.state) password finding user credential h
fits_post_of setting known asked password (forms.Value execution value) finding user credential h = code_fits setting asked (who_of setting.moment known.state) execution value user credential h
fits_post_of setting known asked password forms.Terms finding user credential h = deed_fits (who_of setting.moment known.state) user credential h
fits_post_of setting known asked password (forms.UpdatePassword given) finding user credential h = deed_fits (who_of setting.moment known.state) user credential h
fits_post_of setting known asked password (forms.ConfigureOtp value) finding user credential h = setup_fits setting known.state.page (who_of setting.moment known.state) value user credential h
fits_post_of setting known asked password forms.RecoveryCodes finding user credential h = deed_fits (who_of setting.moment known.state) user credential h
fits_post_of setting known asked password forms.VerifyEmail finding user credential h = absurd cc

-- ---- an action is asked of the user for whom it is the first one that is pending

-- the user is known, and it is the first one that is pending
abbrev IsFirst : List Fact → Option UserId → Action → Type 0
IsFirst facts None action = ⊥
IsFirst facts (Some user) action = first_pending user facts ≡ Some action

acts_or : (asked : List Need) (other : Progress) → action_in other ≡ None → action_in (asked_or asked other) ≡ None
acts_or [] other h = h
acts_or (need ∷ asked) other h = refl

blocked_acts : (denied missing : Option (List ℕ)) → action_in (denied_or denied (not_configured missing)) ≡ None
blocked_acts (Some id) missing = refl
blocked_acts None None = refl
blocked_acts None (Some id) = refl

lacking_acts : (login : Login) (tree : List Exec) (needs : List (List ℕ)) → action_in (lacking login tree needs) ≡ None
unfolding blocked
lacking_acts login tree needs =
    acts_or (asked_of tree login needs) (blocked tree login.view.account needs)
    (blocked_acts (first_denied tree needs) (first_not_configured tree login.view.account needs))

pending_acts : (first : Option Action) (user : UserId) (levels : List ℕ) (action : Action) → action_in (unless_pending first user levels) ≡ Some action → first ≡ Some action
pending_acts None user levels action h = absurd cc
pending_acts (Some own) user levels action h = h

granted_acts : (granted : Bool) (first : Option Action) (user : UserId) (levels : List ℕ) (level : ℕ) (action : Action)
    → action_in (if granted then unless_pending first user levels else progresses.LevelMissed level) ≡ Some action → first ≡ Some action
granted_acts true first user levels level action h = pending_acts first user levels action h
granted_acts false first user levels level action h = absurd cc

holds_acts : (holds : Bool) (facts : List Fact) (login : Login) (held : List (List ℕ)) (tree : List Exec) (who : Option UserId) (other : Progress) (action : Action) → action_in other ≡ None
    → action_in (if holds then holding facts login held tree who else other) ≡ Some action → IsFirst facts who action
holds_acts true facts login held tree None other action none h = absurd cc
holds_acts true facts login held tree (Some user) other action none h =
    granted_acts (is_granted login.view held tree) (first_pending user facts) user (levels_reached held login.view.level tree) login.view.level action h
holds_acts false facts login held tree who other action none h = absurd cc

acts_for : (facts : List Fact) (moment : ℕ) (known : KnownTab) (who : Option UserId) (realm : Option RealmParts) (action : Action)
    → action_in (under_realm facts moment known who realm) ≡ Some action → IsFirst facts who action
unfolding progress_in
acts_for facts moment known who None action h = absurd cc
acts_for facts moment known who (Some realm) action h =
    let tree = realm.flow in
    let login = login_in facts moment known who tree in
    let held = truths_in facts moment known who tree in
    holds_acts (flow_holds held tree) facts login held tree who (lacking login tree (flow_needs held tree)) action (lacking_acts login tree (flow_needs held tree)) h

found_if : (p : Action → Bool) (own action : Action) (b : Bool) (rest : Option Action) → p own ≡ b → (rest ≡ Some action → p action ≡ true)
    → (if b then Some own else rest) ≡ Some action → p action ≡ true
found_if p own action true rest e more h = let same : own ≡ action = cc in ap p (sym same) ∙ e
found_if p own action false rest e more h = more h

-- what is found is pending
found : (p : Action → Bool) (order : List Action) (action : Action) → find p order ≡ Some action → p action ≡ true
found p [] action h = absurd cc
found p (own ∷ order) action h = found_if p own action (p own) (find p order) refl (found p order action) h

-- the action of the form is done
abbrev pub HasDone : List Fact → UserId → Form → Type 0
HasDone facts user form = (action : Action) → does form action ≡ true → is_pending user facts action ≡ false

module _ (facts : List Fact) (moment later : ℕ) (known : KnownTab) (user : UserId) where
  -- the executions that are asked of this one at the later moment
  abbrev asked_later : Option UserId → List Need
  asked_later who = asked_in (under_realm facts later known who (realm_of known.opening.version facts))

  whose_later : (form : Form) (who : Option UserId) → who_of later known.state ≡ who → has_need (asked_later who) form ≡ false → has_need (asked_in (progress_of facts later known)) form ≡ false
  unfolding progress_of
  whose_later form who is h =
      ap (λ p. has_need (asked_in p) form) (under_is facts later known (realm_of known.opening.version facts))
      ∙ ap (λ w. has_need (asked_later w) form) is ∙ h

  -- it is asked neither of the same user, nor of nobody
  lacks_later : (form : Form) (who : Option UserId) → who_of later known.state ≡ who
      → same_user known.state.named (user_of (live_session moment known.state)) ≡ Ok tt → same_user known.state.named (user_of (live_session later known.state)) ≡ Ok tt
      → who_of moment known.state ≡ Some user → HasPassed facts known.tab user form
      → (who_of later known.state ≡ None → has_need (asked_later None) form ≡ false)
      → has_need (asked_in (progress_of facts later known)) form ≡ false
  lacks_later form None is before after whose passed nobody = whose_later form None is (nobody is)
  lacks_later form (Some found) is before after whose passed nobody =
      let e = same_later known.state.session moment later known.state.named user found before after whose is in
      whose_later form (Some user) (is ∙ ap Some e)
      (progress_lacks facts later known (Some user) (realm_of known.opening.version facts) form (λ tree. passed_lacks facts later known user tree form passed))

  -- nobody has an account
  nobody_lacks : (form : Form) → ((login : Login) → login.view.account ≡ None → (id : List ℕ) (kind : Option Kind) → has_need (asked_as login id kind) form ≡ false)
      → has_need (asked_later None) form ≡ false
  unfolding login_in account_of
  nobody_lacks form never =
      progress_lacks facts later known None (realm_of known.opening.version facts) form (λ tree id kind found lacking. never (login_in facts later known None tree) refl id kind)

  named_lacks : (form : Form) → known.state.named ≡ Some user
      → same_user known.state.named (user_of (live_session moment known.state)) ≡ Ok tt → same_user known.state.named (user_of (live_session later known.state)) ≡ Ok tt
      → HasPassed facts known.tab user form → has_need (asked_in (progress_of facts later known)) form ≡ false
  named_lacks form is before after passed =
      lacks_later form (who_of later known.state) refl before after (named_who (live_session moment known.state) known.state.named user is before) passed
      (λ none. absurd (named_known (live_session later known.state) known.state.named user is none))

  form_lacks : (form : Form) → IsPostOf user moment known.state form
      → same_user known.state.named (user_of (live_session moment known.state)) ≡ Ok tt → HasPassed facts known.tab user form
      → same_user known.state.named (user_of (live_session later known.state)) ≡ Ok tt → has_need (asked_in (progress_of facts later known)) form ≡ false
  form_lacks (forms.Username execution name) of before passed after = named_lacks (forms.Username execution name) of before after passed
  form_lacks (forms.NamePassword execution name password) of before passed after = named_lacks (forms.NamePassword execution name password) of before after passed
  form_lacks (forms.Password execution password) of before passed after =
      let form = forms.Password execution password in
      lacks_later form (who_of later known.state) refl before after of passed (λ none. nobody_lacks form (λ login nobody. unasked_password login nobody execution password))
  form_lacks (forms.Value execution value) of before passed after =
      let form = forms.Value execution value in
      lacks_later form (who_of later known.state) refl before after of passed (λ none. nobody_lacks form (λ login nobody. unasked_value login nobody execution value))
  form_lacks forms.Terms of before passed after = never_asked (asked_in (progress_of facts later known)) forms.Terms (λ need. refl)
  form_lacks (forms.UpdatePassword password) of before passed after = never_asked (asked_in (progress_of facts later known)) (forms.UpdatePassword password) (λ need. refl)
  form_lacks (forms.ConfigureOtp value) of before passed after = never_asked (asked_in (progress_of facts later known)) (forms.ConfigureOtp value) (λ need. refl)
  form_lacks forms.RecoveryCodes of before passed after = never_asked (asked_in (progress_of facts later known)) forms.RecoveryCodes (λ need. refl)
  form_lacks forms.VerifyEmail of before passed after = never_asked (asked_in (progress_of facts later known)) forms.VerifyEmail (λ need. refl)

  -- ---- the form does no action that is asked

  pending_later : (who : Option UserId) → who_of later known.state ≡ who
      → same_user known.state.named (user_of (live_session moment known.state)) ≡ Ok tt → same_user known.state.named (user_of (live_session later known.state)) ≡ Ok tt
      → who_of moment known.state ≡ Some user → (action : Action) → IsFirst facts who action → is_pending user facts action ≡ true
  unfolding first_pending
  pending_later None is before after whose action first = absurd first
  pending_later (Some now) is before after whose action first =
      let e = same_later known.state.session moment later known.state.named user now before after whose is in
      found (is_pending user facts) in_order action (subst (λ (u : UserId). find (is_pending u facts) in_order ≡ Some action) e first)

  undone : (form : Form) (page : Option Page) (action : Action) (done : Bool) → does form action ≡ done → (done ≡ true → ⊥) → (does form action && is_shown page action) ≡ false
  undone form page action false h none = rw h refl
  undone form page action true h none = absurd (none refl)

  does_none : (form : Form) (page : Option Page)
      → same_user known.state.named (user_of (live_session moment known.state)) ≡ Ok tt → same_user known.state.named (user_of (live_session later known.state)) ≡ Ok tt
      → who_of moment known.state ≡ Some user → HasDone facts user form
      → (first : Option Action) → action_in (progress_of facts later known) ≡ first → does_asked first page form ≡ false
  unfolding progress_of
  does_none form page before after whose done None is = refl
  does_none form page before after whose done (Some action) is =
      let found_realm = realm_of known.opening.version facts in
      let acts = acts_for facts later known (who_of later known.state) found_realm action (sym (ap action_in (under_is facts later known found_realm)) ∙ is) in
      let pending = pending_later (who_of later known.state) refl before after whose action acts in
      undone form page action (does form action) refl (λ does_so. let settled = done action does_so in absurd cc)

  -- no form of an execution does an action
  never_does : (form : Form) (page : Option Page) (first : Option Action) → ((action : Action) → does form action ≡ false) → does_asked first page form ≡ false
  never_does form page None none = refl
  never_does form page (Some action) none = rw (none action) refl

  does_later : (form : Form) (page : Option Page) → IsPostOf user moment known.state form
      → same_user known.state.named (user_of (live_session moment known.state)) ≡ Ok tt → same_user known.state.named (user_of (live_session later known.state)) ≡ Ok tt
      → HasDone facts user form → does_asked (action_in (progress_of facts later known)) page form ≡ false
  does_later (forms.Username execution name) page of before after done = never_does (forms.Username execution name) page _ (λ action. refl)
  does_later (forms.NamePassword execution name password) page of before after done = never_does (forms.NamePassword execution name password) page _ (λ action. refl)
  does_later (forms.Password execution password) page of before after done = never_does (forms.Password execution password) page _ (λ action. refl)
  does_later (forms.Value execution value) page of before after done = never_does (forms.Value execution value) page _ (λ action. refl)
  does_later forms.Terms page of before after done = does_none forms.Terms page before after of done _ refl
  does_later (forms.UpdatePassword password) page of before after done = does_none (forms.UpdatePassword password) page before after of done _ refl
  does_later (forms.ConfigureOtp value) page of before after done = does_none (forms.ConfigureOtp value) page before after of done _ refl
  does_later forms.RecoveryCodes page of before after done = does_none forms.RecoveryCodes page before after of done _ refl
  does_later forms.VerifyEmail page of before after done = absurd of

  -- so it isn't asked
  pub form_unasked : (form : Form) (page : Option Page) → IsPostOf user moment known.state form
      → same_user known.state.named (user_of (live_session moment known.state)) ≡ Ok tt → HasPassed facts known.tab user form → HasDone facts user form
      → same_user known.state.named (user_of (live_session later known.state)) ≡ Ok tt → is_asked (progress_of facts later known) page form ≡ false
  form_unasked form page of before passed done after = rw (form_lacks form of before passed after, does_later form page of before after done) refl
