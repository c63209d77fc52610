-- What holds of each fact that an answer adds.
use Rattle.std.proofs.Common.{◌≡◌, ℕ, ◌+◌, Bool, true, false, List, [], ◌∷◌, ◌++◌, Some, None, refl, sym, ap, subst, ◌∙◌}
use Rattle.std.specs.Prelude.{Option, Result, Ok, Err, map}
use Rattle.std.specs.List.{All}
use Rattle.std.proofs.lemmas.List.Elements.{All-nil, All-cons, All-append}
use Rattle.conditions.specs.declared.secret_kind.SecretKind.{SecretKind}
use Rattle.conditions.specs.declared.secret_kind.SecretKind.TheVariants as kinds
use Rattle.login_base.specs.declared.id.Code.{Code}
use Rattle.login_base.specs.declared.id.RootKey.{RootKey}
use Rattle.login_base.specs.declared.id.SessionId.{SessionId}
use Rattle.login_base.specs.declared.id.TabKey.{TabKey}
use Rattle.login_base.specs.declared.id.TokenKey.{TokenKey}
use Rattle.login_base.specs.declared.id.UserId.{UserId}
use Rattle.asks.specs.declared.admin.AdminVerb.{AdminVerb}
use Rattle.asks.specs.declared.admin.AdminVerb.TheVariants as verbs
use Rattle.asks.specs.declared.admin.NewUser.{NewUser}
use Rattle.asks.specs.declared.admin.TokenAction.{TokenAction}
use Rattle.asks.specs.declared.admin.TokenAction.TheVariants as tokens
use Rattle.asks.specs.declared.ask.Access.{Access}
use Rattle.asks.specs.declared.ask.Ask.{Ask}
use Rattle.asks.specs.declared.ask.Ask.TheVariants as asks
use Rattle.asks.specs.declared.ask.NewTab.{NewTab}
use Rattle.asks.specs.declared.ask.Post.{Post}
use Rattle.realm_data.specs.declared.action.Action.{Action}
use Rattle.realm_data.specs.declared.action.Action.TheVariants as actions
use Rattle.realm_data.specs.declared.realm_parts.RealmParts.{RealmParts}
use Rattle.facts.specs.Realms.{last_version}
use Rattle.facts.specs.declared.fact.Fact.{Fact}
use Rattle.facts.specs.declared.fact.Fact.TheVariants as events
use Rattle.asks.specs.declared.finding.Finding.{Finding}
use Rattle.asks.specs.declared.finding.Finding.TheVariants as findings
use Rattle.facts.specs.declared.secret.Secret.{Secret}
use Rattle.facts.specs.declared.tabs.RootSession.{RootSession}
use Rattle.facts.specs.declared.secret.Secret.TheVariants as secrets
use Rattle.facts.specs.Serials.{last_stored_serial}
use Rattle.facts.specs.Tabs.{live_session, who_of}
use Rattle.facts.specs.declared.user_password.UserPassword.{UserPassword}
use Rattle.hall_answers.specs.declared.answer.Answer.{Answer}
use Rattle.hall_answers.specs.declared.refusal.Refusal.{Refusal}
use Rattle.hall_answers.specs.Ids.{next_code, next_token}
use Rattle.hall_answers.specs.Passwords.{derived, password_facts}
use Rattle.hall_answers.specs.Refusals.{settled}
use Rattle.hall_answers.specs.Setting.{Setting}
use Rattle.login_progress.specs.declared.known_tab.KnownTab.{KnownTab}
use Rattle.login_progress.specs.declared.progress.Progress.{Progress}
use Rattle.login_progress.specs.declared.progress.Progress.TheVariants as progresses
use Rattle.login_progress.specs.Progress.{progress_of, asked_in, action_in}
use Rattle.tab_asks.specs.declared.check.Check.{Check}
use Rattle.tab_asks.specs.declared.check.Check.TheVariants as checks
use Rattle.root_asks.specs.Logout.{live_in, end_facts, due_logout}
use Rattle.root_asks.specs.NewTab.{check_new_tab, facts_opened, opening_fact, tab_opened, new_tab_answer, due_new_tab}
use Rattle.tab_pages.specs.Offering.{no_offer, offer_for}
use Rattle.tab_pages.specs.Pages.{page_fact, session_for, beginning, levels_recorded, seen_now, completion_facts, completion, progress_answer, tab_answer, tab_answer_then, visit_answer, due_page}
use Rattle.tab_asks.specs.Deeds.{deed_check, deed_facts}
use Rattle.tab_asks.specs.Post.{check_post, check_form, check_with, name_check, password_check, evidence_by, known_over, answer_to_accepted, page_again, shown_again, answer_to_check, post_where, post_by, post_in, due_post}
use Rattle.tab_asks.specs.Forms.{named_by, target_of, concerned}
use Rattle.tab_pages.specs.Visit.{check_tab, check_visit, check_account}
use Rattle.realm_data.specs.PasswordHash.{HashedPassword}
use Rattle.admin_asks.specs.Account.{GivenSecrets, otp_facts, recovery_facts, count, secret_facts, action_facts}
use Rattle.admin_asks.specs.Closing.{answer_to_enable, answer_to_disable, due_enable, due_disable, check_open, due_unlock}
use Rattle.admin_asks.specs.Ending.{check_session, outlived_ids, answer_to_revoke, due_revoke, due_sweep}
use Rattle.admin_asks.specs.Named.{check_user}
use Rattle.admin_asks.specs.OtpRemove.{check_there, removal, answer_to_otp_remove, due_otp_remove}
use Rattle.admin_asks.specs.OtpSet.{answer_to_otp_set, due_otp_set}
use Rattle.admin_asks.specs.SetPassword.{answer_to_set_password, due_set_password}
use Rattle.admin_asks.specs.Require.{answer_to_require, due_require}
use Rattle.admin_asks.specs.Roles.{answer_to_roles, check_made, due_roles}
use Rattle.admin_asks.specs.RealmPut.{check_realm, answer_to_realm, due_realm_put}
use Rattle.admin_asks.specs.Admin.{check_key, due_verb, verb_with, due_admin}
use Rattle.admin_asks.specs.Token.{check_holder, expiry_of, answer_to_token, due_token}
use Rattle.admin_asks.specs.UserAdd.{check_new_user, given_by, answer_to_new_user, due_user_add}
use Rattle.token_asks.specs.Follow.{check_token, followed, answer_to_verify, answer_to_reset, due_verify, due_reset}
use Rattle.login_hall.specs.Due.{due_ask}
use Rattle.login_progress.specs.PasswordFor.{password_for}
use Rattle.asks.specs.declared.ask.Form.{Form}
use Rattle.asks.specs.declared.ask.Form.TheVariants as forms
use Rattle.asks.specs.declared.reply.Need.{Need}
use Rattle.facts.specs.Accounts.{account_named}
use Rattle.hall_laws.proofs.CodeChecks.{failing, code_fails, setup_fails}
use Rattle.hall_laws.proofs.DeedFacts.{deeds_all}
use Rattle.hall_laws.proofs.PostReadiness.{is_current, is_fitting}
use Rattle.hall_laws.specs.AskedEvidence.{is_post}
use Rattle.hall_laws.specs.Ready.{IsAccepted, progress_at}

-- it holds of each fact that asks add, but for evidence, what is spent, failures, and completions
pub record Allows (P : Fact → Type 0) : Type 0 where
  pub page : (tab : TabKey) (code : Code) (action : Option Action) (offer : List ℕ) → P (page_fact tab code action offer)
  pub level : (session : SessionId) (level moment : ℕ) → P (events.Level session level moment)
  pub ended : (session : SessionId) → P (events.SessionEnd session)
  pub seen : (session : SessionId) (moment : ℕ) → P (events.Seen session moment)
  pub session : (session : SessionId) (root : Option RootKey) (user : UserId) (moment idle most : ℕ) → P (events.Session session root user moment idle most)
  pub opened : (root : RootKey) (tab : TabKey) (version level life moment : ℕ) → P (events.Opened root tab version level life moment)
  pub enabled : (user : UserId) → P (events.Enabled user)
  pub disabled : (user : UserId) → P (events.Disabled user)
  pub realm_put : (version : ℕ) (realm : RealmParts) → P (events.RealmPut version realm)
  pub user_put : (user : UserId) (name : List ℕ) (roles : List (List ℕ)) → P (events.UserPut user name roles)
  pub secret_set : (user : UserId) (kind : SecretKind) (serial : ℕ) (secret : Secret) (by : Option TabKey) → P (events.SecretSet user kind serial secret by)
  pub action_set : (user : UserId) (action : Action) → P (events.ActionSet user action)
  pub action_done : (user : UserId) (action : Action) → P (events.ActionDone user action)
  pub token_made : (key : TokenKey) (user : UserId) (kind : TokenAction) (expiry : ℕ) → P (events.TokenMade key user kind expiry)

-- a fact of these kinds
abbrev pub is_plain : Fact → Bool
is_plain (events.Rendered tab code action offer) = true
is_plain (events.Level session level moment) = true
is_plain (events.SessionEnd session) = true
is_plain (events.Seen session moment) = true
is_plain (events.Session session root user moment idle most) = true
is_plain (events.Opened root tab version level life moment) = true
is_plain (events.Enabled user) = true
is_plain (events.Disabled user) = true
is_plain (events.RealmPut version realm) = true
is_plain (events.UserPut user name roles) = true
is_plain (events.SecretSet user kind serial secret by) = true
is_plain (events.ActionSet user action) = true
is_plain (events.ActionDone user action) = true
is_plain (events.TokenMade key user kind expiry) = true
is_plain event = false

pub plain_allows : (P : Fact → Type 0) → ((fact : Fact) → is_plain fact ≡ true → P fact) → Allows P
plain_allows P each = record {
  page = λ tab code action offer. each (page_fact tab code action offer) refl;
  level = λ session level moment. each (events.Level session level moment) refl;
  ended = λ session. each (events.SessionEnd session) refl;
  seen = λ session moment. each (events.Seen session moment) refl;
  session = λ session root user moment idle most. each (events.Session session root user moment idle most) refl;
  opened = λ root tab version level life moment. each (events.Opened root tab version level life moment) refl;
  enabled = λ user. each (events.Enabled user) refl;
  disabled = λ user. each (events.Disabled user) refl;
  realm_put = λ version realm. each (events.RealmPut version realm) refl;
  user_put = λ user name roles. each (events.UserPut user name roles) refl;
  secret_set = λ user kind serial secret by. each (events.SecretSet user kind serial secret by) refl;
  action_set = λ user action. each (events.ActionSet user action) refl;
  action_done = λ user action. each (events.ActionDone user action) refl;
  token_made = λ key user kind expiry. each (events.TokenMade key user kind expiry) refl;
}

-- the token that an ask follows
abbrev pub token_of : Ask → Option TokenKey
token_of (asks.Verify key) = Some key
token_of (asks.Reset key password) = Some key
token_of ask = None

-- it holds of each failure that counts over these facts: that of a user whose account is open
abbrev pub AllowsFailures : (Fact → Type 0) → Setting → Type 0
AllowsFailures P setting = (user : UserId) → check_account setting.facts setting.moment (Some user) ≡ Ok tt → P (events.Failed user setting.moment)

-- ---- whose failure counts

name_fails : (named : Option UserId) (user : UserId) → failing (name_check named) ≡ Some user → named ≡ Some user
name_fails (Some other) user h = absurd cc
name_fails None user h = absurd cc

password_fails : (target : Option UserId) (password : Option UserPassword) (finding : Finding) (user : UserId)
    → failing (password_check target password finding) ≡ Some user → target ≡ Some user
unfolding password_check
password_fails None password finding user h = absurd cc
password_fails (Some other) None finding user h = h
password_fails (Some other) (Some kept) (findings.Checked had true) user h = absurd cc
password_fails (Some other) (Some kept) (findings.Checked had false) user h = h
password_fails (Some other) (Some kept) finding user h = h

deed_fails : (who : Option UserId) (user : UserId) → failing (deed_check who) ≡ Some user → who ≡ Some user
deed_fails (Some other) user h = absurd cc
deed_fails None user h = absurd cc

-- it is that of the user concerned
fails_concerned : (setting : Setting) (known : KnownTab) (asked : List Need) (who : Option UserId) (password : Option UserPassword) (form : Form) (finding : Finding) (user : UserId)
    → failing (check_with setting known asked (named_by setting.facts form) who password form finding) ≡ Some user
    → concerned (named_by setting.facts form) who ≡ Some user
fails_concerned setting known asked who password (forms.Username execution name) finding user h = rw (name_fails (account_named name setting.facts) user h) refl
fails_concerned setting known asked who password (forms.NamePassword execution name given) finding user h = rw (password_fails (account_named name setting.facts) password finding user h) refl
fails_concerned setting known asked who password (forms.Password execution given) finding user h = password_fails who password finding user h
fails_concerned setting known asked who password (forms.Value execution value) finding user h = code_fails setting asked who execution value user h
fails_concerned setting known asked who password forms.Terms finding user h = deed_fails who user h
fails_concerned setting known asked who password (forms.UpdatePassword given) finding user h = deed_fails who user h
fails_concerned setting known asked who password (forms.ConfigureOtp value) finding user h = absurd (setup_fails setting known.state.page who value user h)
fails_concerned setting known asked who password forms.RecoveryCodes finding user h = deed_fails who user h
fails_concerned setting known asked who password forms.VerifyEmail finding user h = absurd cc

-- and the account of that user is open
fails_open : (setting : Setting) (post : Post) (finding : Finding) (known : KnownTab) (named : Option UserId) (progress : Progress) (check : Check) (user : UserId)
    → check_post setting.facts setting.moment known post ≡ Ok named
    → check_form setting known progress named post.form finding ≡ Ok check → failing check ≡ Some user
    → check_account setting.facts setting.moment (Some user) ≡ Ok tt
fails_open setting post finding known named progress check user is_named fits fails =
    let who = who_of setting.moment known.state in
    let asked = asked_in progress in
    let current = is_current setting.facts setting.moment known post named is_named in
    let fitting = is_fitting setting known progress named post.form finding check fits in
    let is = fails_concerned setting known asked who (password_for setting.facts (target_of (named_by setting.facts post.form) who post.form)) post.form finding user
    (subst (λ (n : Option UserId). failing (check_with setting known asked n who (password_for setting.facts (target_of n who post.form)) post.form finding) ≡ Some user) (sym current.is_named)
    (ap failing fitting.is_check ∙ fails)) in
    let whose : concerned named who ≡ Some user = ap (λ (n : Option UserId). concerned n who) (sym current.is_named) ∙ is in
    subst (λ (u : Option UserId). check_account setting.facts setting.moment u ≡ Ok tt) whose fitting.account

module _ (P : Fact → Type 0) (allows : Allows P) where
  settled_all : {A : Type 0} (facts : List Fact) (tab : Option TabKey) (answer : A → Answer) (result : Result A Refusal)
      → ((x : A) → result ≡ Ok x → All P (answer x).added) → All P (settled facts tab answer result).added
  settled_all facts tab answer (Ok x) each = each x refl
  settled_all facts tab answer (Err refusal) each = All-nil P

  -- ---- administrators

  password_all : (user : UserId) (serial : ℕ) (password : Option HashedPassword) → All P (password_facts user serial password None)
  password_all user serial None = All-nil P
  password_all user serial (Some hash) =
      All-cons P (events.SecretSet user kinds.Password serial (secrets.Password hash) None) [] (allows.secret_set user kinds.Password serial (secrets.Password hash) None) (All-nil P)

  otp_all : (user : UserId) (serial : ℕ) (otp : Option (List ℕ)) → All P (otp_facts user serial otp)
  otp_all user serial None = All-nil P
  otp_all user serial (Some key) =
      All-cons P (events.SecretSet user kinds.Otp serial (secrets.Otp key) None) [] (allows.secret_set user kinds.Otp serial (secrets.Otp key) None) (All-nil P)

  recovery_all : (user : UserId) (serial : ℕ) (recovery : Option (List (List ℕ))) → All P (recovery_facts user serial recovery)
  recovery_all user serial None = All-nil P
  recovery_all user serial (Some digests) =
      All-cons P (events.SecretSet user kinds.Recovery serial (secrets.Recovery digests) None) [] (allows.secret_set user kinds.Recovery serial (secrets.Recovery digests) None) (All-nil P)

  secrets_all : (user : UserId) (last : ℕ) (given : GivenSecrets) → All P (secret_facts user last given)
  secrets_all user last given =
      let first = password_facts user (last + 1) given.password None in
      let second = otp_facts user (last + count given.password + 1) given.otp in
      let third = recovery_facts user (last + count given.password + count given.otp + 1) given.recovery in
      All-append P (first ++ second) third
      (All-append P first second (password_all user (last + 1) given.password) (otp_all user (last + count given.password + 1) given.otp))
      (recovery_all user (last + count given.password + count given.otp + 1) given.recovery)

  actions_all : (user : UserId) (actions : List Action) → All P (action_facts user actions)
  actions_all user [] = All-nil P
  actions_all user (action ∷ actions) = All-cons P (events.ActionSet user action) (action_facts user actions) (allows.action_set user action) (actions_all user actions)

  user_all : (setting : Setting) (new : NewUser) (finding : Finding) → All P (due_user_add setting new finding).added
  unfolding due_user_add
  user_all setting new finding =
      settled_all setting.facts None (answer_to_new_user new finding) (check_new_user setting.facts new) (λ user is.
      let secrets = secret_facts user user.0 (given_by new finding) in
      All-cons P (events.UserPut user new.name new.roles) (secrets ++ action_facts user new.actions) (allows.user_put user new.name new.roles)
      (All-append P secrets (action_facts user new.actions) (secrets_all user user.0 (given_by new finding)) (actions_all user new.actions)))

  require_all : (setting : Setting) (name : List ℕ) (action : Action) → All P (due_require setting name action).added
  unfolding due_require
  require_all setting name action =
      settled_all setting.facts None (answer_to_require name action) (check_user setting.facts name) (λ user is. actions_all user (action ∷ []))

  token_all : (setting : Setting) (name : List ℕ) (kind : TokenAction) (life : ℕ) → All P (due_token setting name kind life).added
  unfolding due_token
  token_all setting name kind life =
      settled_all setting.facts None (answer_to_token setting kind life) (check_holder setting.facts name) (λ user is.
      let key = next_token setting.facts setting.draws in
      All-cons P (events.TokenMade key user kind (expiry_of setting.moment life)) [] (allows.token_made key user kind (expiry_of setting.moment life)) (All-nil P))

  realm_all : (setting : Setting) (realm : Option RealmParts) → All P (due_realm_put setting realm).added
  unfolding due_realm_put
  realm_all setting realm =
      settled_all setting.facts None (answer_to_realm setting.facts) (check_realm realm) (λ put is.
      let version = last_version setting.facts + 1 in
      All-cons P (events.RealmPut version put) [] (allows.realm_put version put) (All-nil P))

  set_password_all : (setting : Setting) (name : List ℕ) (finding : Finding) → All P (due_set_password setting name finding).added
  unfolding due_set_password
  set_password_all setting name finding =
      settled_all setting.facts None (answer_to_set_password setting.facts name finding) (check_user setting.facts name) (λ user is.
      password_all user (last_stored_serial setting.facts + 1) (derived finding))

  otp_set_all : (setting : Setting) (name key : List ℕ) → All P (due_otp_set setting name key).added
  unfolding due_otp_set
  otp_set_all setting name key =
      settled_all setting.facts None (answer_to_otp_set setting.facts name key) (check_user setting.facts name) (λ user is.
      otp_all user (last_stored_serial setting.facts + 1) (Some key))

  otp_remove_all : (setting : Setting) (name : List ℕ) → All P (due_otp_remove setting name).added
  unfolding due_otp_remove
  otp_remove_all setting name =
      settled_all setting.facts None (answer_to_otp_remove name) (check_there setting.facts name) (λ user is.
      All-cons P (removal user) [] (allows.secret_set user kinds.Otp 0 secrets.Gone None) (All-nil P))

  enable_all : (setting : Setting) (name : List ℕ) (user : Result UserId Refusal) → All P (settled setting.facts None (answer_to_enable name) user).added
  enable_all setting name user =
      settled_all setting.facts None (answer_to_enable name) user (λ user is. All-cons P (events.Enabled user) [] (allows.enabled user) (All-nil P))

  disable_all : (setting : Setting) (name : List ℕ) → All P (due_disable setting name).added
  unfolding due_disable
  disable_all setting name =
      settled_all setting.facts None (answer_to_disable name) (check_user setting.facts name) (λ user is.
      All-cons P (events.Disabled user) [] (allows.disabled user) (All-nil P))

  roles_all : (setting : Setting) (name : List ℕ) (roles : List (List ℕ)) → All P (due_roles setting name roles).added
  unfolding due_roles
  roles_all setting name roles =
      settled_all setting.facts None (answer_to_roles name roles) (check_made setting.facts name) (λ user is.
      All-cons P (events.UserPut user name roles) [] (allows.user_put user name roles) (All-nil P))

  ends_all : (ended : List SessionId) → All P (map events.SessionEnd ended)
  ends_all [] = All-nil P
  ends_all (session ∷ ended) = All-cons P (events.SessionEnd session) (map events.SessionEnd ended) (allows.ended session) (ends_all ended)

  revoke_all : (setting : Setting) (session : SessionId) → All P (due_revoke setting session).added
  unfolding due_revoke
  revoke_all setting session =
      settled_all setting.facts None (answer_to_revoke session) (check_session setting.facts session) (λ there is. ends_all (session ∷ []))

  sweep_all : (setting : Setting) → All P (due_sweep setting).added
  unfolding due_sweep
  sweep_all setting = ends_all (outlived_ids setting.moment setting.facts)

  verb_all : (setting : Setting) (verb : AdminVerb) (finding : Finding) → All P (due_verb setting verb finding).added
  unfolding due_enable due_unlock
  verb_all setting (verbs.RealmPut realm) finding = realm_all setting realm
  verb_all setting (verbs.UserAdd new) finding = user_all setting new finding
  verb_all setting (verbs.Roles name roles) finding = roles_all setting name roles
  verb_all setting (verbs.SetPassword name password) finding = set_password_all setting name finding
  verb_all setting (verbs.OtpSet name secret) finding = otp_set_all setting name secret
  verb_all setting (verbs.OtpRemove name) finding = otp_remove_all setting name
  verb_all setting (verbs.Require name action) finding = require_all setting name action
  verb_all setting (verbs.Enable name) finding = enable_all setting name (check_user setting.facts name)
  verb_all setting (verbs.Disable name) finding = disable_all setting name
  verb_all setting (verbs.Unlock name) finding = enable_all setting name (check_open setting.facts name)
  verb_all setting (verbs.Token name action life) finding = token_all setting name action life
  verb_all setting (verbs.Revoke session) finding = revoke_all setting session
  verb_all setting verbs.Sweep finding = sweep_all setting

  pub admin_all : (setting : Setting) (access : Access) (verb : AdminVerb) (finding : Finding) → All P (due_admin setting access verb finding).added
  unfolding due_admin
  admin_all setting access verb finding =
      settled_all setting.facts None (verb_with setting verb finding) (check_key setting.realm access) (λ key is. verb_all setting verb finding)

  -- ---- logouts

  end_all : (live : Option RootSession) → All P (end_facts live)
  end_all None = All-nil P
  end_all (Some own) = ends_all (own.session ∷ [])

  pub logout_all : (setting : Setting) (root : Option RootKey) → All P (due_logout setting root).added
  unfolding due_logout
  logout_all setting root = end_all (live_in setting root)

  -- ---- tokens

  followed_all : (key : TokenKey) (user : UserId) (action : Action) → P (events.SpentToken key) → All P (followed key user action)
  followed_all key user action spent =
      All-cons P (events.SpentToken key) (events.ActionDone user action ∷ []) spent
      (All-cons P (events.ActionDone user action) [] (allows.action_done user action) (All-nil P))

  pub verify_all : (setting : Setting) (key : TokenKey) → P (events.SpentToken key) → All P (due_verify setting key).added
  unfolding due_verify
  verify_all setting key spent =
      settled_all setting.facts None (answer_to_verify setting key) (check_token setting.facts setting.moment key tokens.VerifyEmail) (λ user is.
      followed_all key user actions.VerifyEmail spent)

  pub reset_all : (setting : Setting) (key : TokenKey) (finding : Finding) → P (events.SpentToken key) → All P (due_reset setting key finding).added
  unfolding due_reset
  reset_all setting key finding spent =
      settled_all setting.facts None (answer_to_reset setting key finding) (check_token setting.facts setting.moment key tokens.UpdatePassword) (λ user is.
      let serial = last_stored_serial setting.facts + 1 in
      All-append P (password_facts user serial (derived finding) None) (followed key user actions.UpdatePassword)
      (password_all user serial (derived finding)) (followed_all key user actions.UpdatePassword spent))

  -- ---- pages

  page_alone : (tab : TabKey) (code : Code) (action : Option Action) (offer : List ℕ) → All P (page_fact tab code action offer ∷ [])
  page_alone tab code action offer = All-cons P (page_fact tab code action offer) [] (allows.page tab code action offer) (All-nil P)

  again_all : (setting : Setting) (known : KnownTab) (action : Option Action) → All P (page_again setting known action ∷ [])
  again_all setting known None = page_alone known.tab (next_code setting.facts setting.draws) None no_offer
  again_all setting known (Some action) =
      page_alone known.tab (next_code setting.facts setting.draws) (Some action) (offer_for known.state.page action setting.draws)

  pub wrong_all : (setting : Setting) (known : KnownTab) (action : Option Action) (user : Option UserId)
      → ((failing : UserId) → user ≡ Some failing → P (events.Failed failing setting.moment))
      → All P (shown_again setting known action user)
  wrong_all setting known action None failed = again_all setting known action
  wrong_all setting known action (Some user) failed =
      All-cons P (events.Failed user setting.moment) (page_again setting known action ∷ []) (failed user refl) (again_all setting known action)

  module _ (completed : (tab : TabKey) (user : UserId) (session : SessionId) (moment : ℕ) → P (events.Completed tab user session moment)) where
    -- ---- what a tab is answered

    begun_all : (setting : Setting) (session : SessionId) (root : RootKey) (user : UserId) (live : Option RootSession) → All P (beginning setting session root user live)
    begun_all setting session root user (Some own) = All-nil P
    begun_all setting session root user None =
        let fact = events.Session session (Some root) user setting.moment setting.realm.session.idle setting.realm.session.max in
        All-cons P fact [] (allows.session session (Some root) user setting.moment setting.realm.session.idle setting.realm.session.max) (All-nil P)

    levels_all : (setting : Setting) (session : SessionId) (levels : List ℕ) → All P (levels_recorded setting session levels)
    levels_all setting session [] = All-nil P
    levels_all setting session (level ∷ levels) =
        All-cons P (events.Level session level setting.moment) (levels_recorded setting session levels) (allows.level session level setting.moment) (levels_all setting session levels)

    seen_all : (setting : Setting) (live : Option RootSession) → All P (seen_now setting live)
    seen_all setting None = All-nil P
    seen_all setting (Some own) = All-cons P (events.Seen own.session setting.moment) [] (allows.seen own.session setting.moment) (All-nil P)

    completion_all : (setting : Setting) (known : KnownTab) (user : UserId) (levels : List ℕ) (session : SessionId) (live : Option RootSession)
        → All P (completion_facts setting known user levels session live)
    completion_all setting known user levels session live =
        let begun = beginning setting session known.root user live in
        let reached = levels_recorded setting session levels in
        let seen = seen_now setting live in
        let ending = events.Completed known.tab user session setting.moment in
        let last = All-cons P ending [] (completed known.tab user session setting.moment) (All-nil P) in
        All-append P ((begun ++ reached) ++ seen) (ending ∷ [])
        (All-append P (begun ++ reached) seen (All-append P begun reached (begun_all setting session known.root user live) (levels_all setting session levels)) (seen_all setting live)) last

    progress_all : (facts : List Fact) (setting : Setting) (known : KnownTab) (progress : Progress) → All P (progress_answer facts setting known progress).added
    unfolding progress_answer completion
    progress_all facts setting known (progresses.Ready user levels) =
        let live = live_session setting.moment known.state in
        completion_all setting known user levels (session_for facts setting.draws live) live
    progress_all facts setting known (progresses.Asked asked) = page_alone known.tab (next_code facts setting.draws) None no_offer
    progress_all facts setting known (progresses.Denied execution) = All-nil P
    progress_all facts setting known (progresses.NotConfigured execution) = All-nil P
    progress_all facts setting known progresses.DeadEnd = All-nil P
    progress_all facts setting known (progresses.LevelMissed level) = All-nil P
    progress_all facts setting known (progresses.Required user action) =
        page_alone known.tab (next_code facts setting.draws) (Some action) (offer_for known.state.page action setting.draws)

    pub tab_all : (facts : List Fact) (setting : Setting) (known : KnownTab) → All P (tab_answer facts setting known).added
    unfolding tab_answer
    tab_all facts setting known = progress_all facts setting known (progress_of facts setting.moment known)

    visit_all : (facts : List Fact) (setting : Setting) (known : KnownTab) → All P (visit_answer facts setting known).added
    unfolding visit_answer
    visit_all facts setting known =
        settled_all facts (Some known.tab) (tab_answer_then facts setting known) (check_visit facts setting.moment known) (λ may is. tab_all facts setting known)

    -- ---- opens and pages

    open_all : (setting : Setting) (new : NewTab) → All P (due_new_tab setting new).added
    unfolding due_new_tab new_tab_answer
    open_all setting new =
        settled_all setting.facts None (new_tab_answer setting) (check_new_tab setting new) (λ place is.
        let more = facts_opened setting place in
        let opened = opening_fact setting place in
        let seen = seen_now setting place.live in
        All-append P (seen ++ opened ∷ []) (visit_answer more setting (tab_opened more setting place)).added
        (All-append P seen (opened ∷ []) (seen_all setting place.live) (All-cons P opened [] (allows.opened _ _ _ _ _ _) (All-nil P)))
        (visit_all more setting (tab_opened more setting place)))

    page_all : (setting : Setting) (root : Option RootKey) (tab : TabKey) → All P (due_page setting root tab).added
    unfolding due_page
    page_all setting root tab =
        settled_all setting.facts None (visit_answer setting.facts setting) (check_tab setting.facts setting.moment root tab) (λ known is. visit_all setting.facts setting known)

    -- ---- posts

    module _ (setting : Setting) (post : Post) (finding : Finding)
        (failed : AllowsFailures P setting) (step : (credential step : ℕ) → P (events.SpentStep credential step))
        (evidence : (accepted : IsAccepted setting post finding) → All P (evidence_by setting accepted.known post.form accepted.user accepted.credential)) where
      check_all : (known : KnownTab) (named : Option UserId) (check : Check) → check_tab setting.facts setting.moment post.root post.tab ≡ Ok known → check_post setting.facts setting.moment known post ≡ Ok named
          → check_form setting known (progress_at setting known) named post.form finding ≡ Ok check
          → All P (answer_to_check setting known (progress_at setting known) post.form finding check).added
      unfolding answer_to_check answer_to_accepted
      check_all known named (checks.Fits user credential) is_known is_named fits =
          let accepted : IsAccepted setting post finding = record { known = known; is_known = is_known; named = named; is_named = is_named; user = user; credential = credential; fits = fits } in
          let given = evidence_by setting known post.form user credential in
          let deeds = deed_facts setting known post.form finding user credential.spent in
          let more = setting.facts ++ (given ++ deeds) in
          All-append P (given ++ deeds) (tab_answer more setting (known_over known more)).added
          (All-append P given deeds (evidence accepted) (deeds_all P allows.secret_set allows.action_done step setting known post.form finding user credential.spent))
          (tab_all more setting (known_over known more))
      check_all known named (checks.Wrong user) is_known is_named fits =
          wrong_all setting known (action_in (progress_at setting known)) user (λ own is.
          failed own (fails_open setting post finding known named (progress_at setting known) (checks.Wrong user) own is_named fits is))
      check_all known named (checks.WrongCode user) is_known is_named fits =
          wrong_all setting known (action_in (progress_at setting known)) user (λ own is.
          failed own (fails_open setting post finding known named (progress_at setting known) (checks.WrongCode user) own is_named fits is))
      check_all known named (checks.SpentCode step) is_known is_named fits =
          wrong_all setting known (action_in (progress_at setting known)) None (λ own is. absurd cc)

      pub post_all : All P (due_post setting post finding).added
      unfolding due_post post_in post_where
      post_all =
          let facts = setting.facts in
          settled_all facts None (post_in setting post finding) (check_tab facts setting.moment post.root post.tab) (λ known is_known.
          settled_all facts (Some known.tab) (post_by setting post.form finding known) (check_post facts setting.moment known post) (λ named is_named.
          let progress = progress_at setting known in
          settled_all facts (Some known.tab) (answer_to_check setting known progress post.form finding) (check_form setting known progress named post.form finding) (λ check is.
          check_all known named check is_known is_named is)))

    -- ---- any ask

    pub other_all : (setting : Setting) (ask : Ask) (finding : Finding) → is_post ask ≡ false
        → ((key : TokenKey) → token_of ask ≡ Some key → P (events.SpentToken key)) → All P (due_ask setting ask finding).added
    other_all setting (asks.Bad at) finding h token = All-nil P
    other_all setting (asks.NewTab new) finding h token = open_all setting new
    other_all setting (asks.Page root tab) finding h token = page_all setting root tab
    other_all setting (asks.Post post) finding h token = absurd cc
    other_all setting (asks.Verify key) finding h token = verify_all setting key (token key refl)
    other_all setting (asks.Reset key password) finding h token = reset_all setting key finding (token key refl)
    other_all setting (asks.Logout root) finding h token = logout_all setting root
    other_all setting (asks.Admin access verb) finding h token = admin_all setting access verb finding

    pub ask_all : (setting : Setting) (ask : Ask) (finding : Finding)
        → AllowsFailures P setting → ((credential step : ℕ) → P (events.SpentStep credential step)) → ((key : TokenKey) → P (events.SpentToken key))
        → ((post : Post) (accepted : IsAccepted setting post finding) → All P (evidence_by setting accepted.known post.form accepted.user accepted.credential))
        → All P (due_ask setting ask finding).added
    ask_all setting (asks.Bad at) finding failed step token evidence = All-nil P
    ask_all setting (asks.NewTab new) finding failed step token evidence = open_all setting new
    ask_all setting (asks.Page root tab) finding failed step token evidence = page_all setting root tab
    ask_all setting (asks.Post post) finding failed step token evidence = post_all setting post finding failed step (evidence post)
    ask_all setting (asks.Verify key) finding failed step token evidence = verify_all setting key (token key)
    ask_all setting (asks.Reset key password) finding failed step token evidence = reset_all setting key finding (token key)
    ask_all setting (asks.Logout root) finding failed step token evidence = logout_all setting root
    ask_all setting (asks.Admin access verb) finding failed step token evidence = admin_all setting access verb finding
