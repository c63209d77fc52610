-- Lists of facts that answer each question alike do so with the same facts behind both.
use Rattle.std.proofs.Common.{◌≡◌, ℕ, Bool, false, ◌||◌, ◌+◌, List, ◌++◌, Option, Some, None, length, length-append, filter, refl, ap, sym, ◌∙◌}
use Rattle.std.specs.Prelude.{fold, unwrap_or, option_and_then}
use Rattle.std.specs.List.{flat_map, list_any}
use Rattle.std.specs.Option.{option_or}
use Rattle.std.proofs.lemmas.Grind.{flat_map-append}
use Rattle.std.proofs.lemmas.List.Elements.{filter-append}
use Rattle.std.proofs.lemmas.List.Folds.{list_any-append}
use Rattle.login_base.specs.declared.id.RootKey.{RootKey}
use Rattle.login_base.specs.declared.id.SessionId.{SessionId}
use Rattle.login_base.specs.declared.id.TabKey.{TabKey}
use Rattle.login_base.specs.declared.id.TokenKey.{TokenKey}
use Rattle.login_base.specs.declared.id.UserId.{UserId}
use Rattle.conditions.specs.declared.secret_kind.SecretKind.TheVariants as kinds
use Rattle.realm_data.specs.declared.action.Action.{Action}
use Rattle.asks.specs.declared.admin.TokenAction.{TokenAction}
use Rattle.facts.specs.declared.fact.Fact.{Fact}
use Rattle.facts.specs.declared.user_password.UserPassword.{UserPassword}
use Rattle.facts.specs.Accounts as accounts
use Rattle.facts.specs.Accounts.{name_put, roles_put, disabled_by, account_named, name_of, roles_of, is_disabled}
use Rattle.facts.specs.Actions.{required_by, is_pending}
use Rattle.facts.specs.Levels.{level_recorded, levels_of}
use Rattle.facts.specs.Places.{last_of}
use Rattle.facts.specs.Realms as realms
use Rattle.facts.specs.Realms.{realm_put, version_after, current_realm, last_version, realm_of}
use Rattle.facts.specs.Roots.{opens_known, opens_known_in, tabs_known_in, tabs_known, session_of}
use Rattle.facts.specs.Secrets.{password_set, change_of, otp_left, recovery_left, password_of, otp_of, recovery_of}
use Rattle.facts.specs.Serials.{tab_serial_after, stored_serial_after, last_tab_serial, last_stored_serial}
use Rattle.facts.specs.Sessions.{stands_by, is_standing}
use Rattle.facts.specs.Spent.{step_spent, number_after, spent_steps, codes_spent}
use Rattle.facts.specs.Tabs.{session_after, tab_after, no_tab, tab_state}
use Rattle.facts.specs.Tokens.{token_by, spends, makes_token, token_made, is_token_spent, tokens_made}
use Rattle.facts.proofs.PlacesLemmas.{last_of_append, fold_append}
use Rattle.account_states.specs.Standings.{failures_after, no_facts, failures_of}
use Rattle.hall_questions.specs.Questions.{AnswerAlike}
use Rattle.hall_questions.proofs.GrowingEvidence.{evidence_grows}
use Rattle.hall_questions.proofs.GrowingSessions.{sessions_grow}

-- ---- the kinds of questions

-- the last value that is picked
last_grows : {F A : Type 0} (pick : F → Option A) (one other more : List F) → last_of pick one ≡ last_of pick other
    → last_of pick (one ++ more) ≡ last_of pick (other ++ more)
last_grows pick one other more h = last_of_append pick one more ∙ ap (option_or (last_of pick more)) h ∙ sym (last_of_append pick other more)

-- a step for each fact
fold_grows : {S F : Type 0} (step : S → F → S) (start : S) (one other more : List F) → fold step start one ≡ fold step start other
    → fold step start (one ++ more) ≡ fold step start (other ++ more)
fold_grows step start one other more h = fold_append step start one more ∙ ap (λ s. fold step s more) h ∙ sym (fold_append step start other more)

-- what each fact gives
all_grow : {F A : Type 0} (gives : F → List A) (one other more : List F) → flat_map gives one ≡ flat_map gives other
    → flat_map gives (one ++ more) ≡ flat_map gives (other ++ more)
all_grow gives one other more h = flat_map-append gives one more ∙ ap (λ xs. xs ++ flat_map gives more) h ∙ sym (flat_map-append gives other more)

-- whether a fact passes a test
any_grows : {F : Type 0} (test : F → Bool) (one other more : List F) → list_any test one ≡ list_any test other
    → list_any test (one ++ more) ≡ list_any test (other ++ more)
any_grows test one other more h = list_any-append test one more ∙ ap (λ b. b || list_any test more) h ∙ sym (list_any-append test other more)

-- how many pass it
count_joined : {F : Type 0} (test : F → Bool) (front more : List F)
    → length (filter test (front ++ more)) ≡ length (filter test front) + length (filter test more)
count_joined test front more = ap length (filter-append test front more) ∙ length-append (filter test front) (filter test more)

count_grows : {F : Type 0} (test : F → Bool) (one other more : List F) → length (filter test one) ≡ length (filter test other)
    → length (filter test (one ++ more)) ≡ length (filter test (other ++ more))
count_grows test one other more h = count_joined test one more ∙ ap (λ (n : ℕ). n + length (filter test more)) h ∙ sym (count_joined test other more)

-- what the last fact that says so says, which is no where none does
flag_behind : (later x y : Option Bool) → unwrap_or x false ≡ unwrap_or y false → unwrap_or (option_or later x) false ≡ unwrap_or (option_or later y) false
flag_behind (Some b) x y h = refl
flag_behind None x y h = h

flag_grows : {F : Type 0} (pick : F → Option Bool) (one other more : List F) → unwrap_or (last_of pick one) false ≡ unwrap_or (last_of pick other) false
    → unwrap_or (last_of pick (one ++ more)) false ≡ unwrap_or (last_of pick (other ++ more)) false
flag_grows pick one other more h =
    ap (λ (o : Option Bool). unwrap_or o false) (last_of_append pick one more)
    ∙ flag_behind (last_of pick more) (last_of pick one) (last_of pick other) h
    ∙ ap (λ (o : Option Bool). unwrap_or o false) (sym (last_of_append pick other more))

-- what the last change leaves
left_behind : {A B : Type 0} (leaves : A → Option B) (later x y : Option A) → option_and_then leaves x ≡ option_and_then leaves y
    → option_and_then leaves (option_or later x) ≡ option_and_then leaves (option_or later y)
left_behind leaves (Some a) x y h = refl
left_behind leaves None x y h = h

left_grows : {F A B : Type 0} (leaves : A → Option B) (pick : F → Option A) (one other more : List F)
    → option_and_then leaves (last_of pick one) ≡ option_and_then leaves (last_of pick other)
    → option_and_then leaves (last_of pick (one ++ more)) ≡ option_and_then leaves (last_of pick (other ++ more))
left_grows leaves pick one other more h =
    ap (option_and_then leaves) (last_of_append pick one more)
    ∙ left_behind leaves (last_of pick more) (last_of pick one) (last_of pick other) h
    ∙ ap (option_and_then leaves) (sym (last_of_append pick other more))

-- ---- the questions

module _ (one other more : List Fact) where
  realm_grows : current_realm one ≡ current_realm other → current_realm (one ++ more) ≡ current_realm (other ++ more)
  unfolding current_realm
  realm_grows h = last_grows realm_put one other more h

  version_grows : last_version one ≡ last_version other → last_version (one ++ more) ≡ last_version (other ++ more)
  unfolding last_version
  version_grows h = fold_grows version_after 0 one other more h

  realm_of_grows : (version : ℕ) → realm_of version one ≡ realm_of version other → realm_of version (one ++ more) ≡ realm_of version (other ++ more)
  unfolding realm_of
  realm_of_grows version h = last_grows (realms.put_as version) one other more h

  tab_serial_grows : last_tab_serial one ≡ last_tab_serial other → last_tab_serial (one ++ more) ≡ last_tab_serial (other ++ more)
  unfolding last_tab_serial
  tab_serial_grows h = fold_grows tab_serial_after 0 one other more h

  stored_serial_grows : last_stored_serial one ≡ last_stored_serial other → last_stored_serial (one ++ more) ≡ last_stored_serial (other ++ more)
  unfolding last_stored_serial
  stored_serial_grows h = fold_grows stored_serial_after 0 one other more h

  named_grows : (name : List ℕ) → account_named name one ≡ account_named name other → account_named name (one ++ more) ≡ account_named name (other ++ more)
  unfolding account_named
  named_grows name h = last_grows (accounts.put_as name) one other more h

  name_grows : (user : UserId) → name_of user one ≡ name_of user other → name_of user (one ++ more) ≡ name_of user (other ++ more)
  unfolding name_of
  name_grows user h = last_grows (name_put user) one other more h

  roles_grow : (user : UserId) → roles_of user one ≡ roles_of user other → roles_of user (one ++ more) ≡ roles_of user (other ++ more)
  unfolding roles_of
  roles_grow user h = last_grows (roles_put user) one other more h

  disabled_grows : (user : UserId) → is_disabled user one ≡ is_disabled user other → is_disabled user (one ++ more) ≡ is_disabled user (other ++ more)
  unfolding is_disabled
  disabled_grows user h = flag_grows (disabled_by user) one other more h

  failures_grow : (user : UserId) → failures_of user one ≡ failures_of user other → failures_of user (one ++ more) ≡ failures_of user (other ++ more)
  unfolding failures_of
  failures_grow user h = fold_grows (failures_after user) no_facts one other more h

  pending_grows : (user : UserId) (action : Action) → is_pending user one action ≡ is_pending user other action
      → is_pending user (one ++ more) action ≡ is_pending user (other ++ more) action
  unfolding is_pending
  pending_grows user action h = flag_grows (required_by user action) one other more h

  password_grows : (user : UserId) → password_of user one ≡ password_of user other → password_of user (one ++ more) ≡ password_of user (other ++ more)
  unfolding password_of
  password_grows user h = left_grows (λ (kept : Option UserPassword). kept) (password_set user) one other more h

  otp_grows : (user : UserId) → otp_of user one ≡ otp_of user other → otp_of user (one ++ more) ≡ otp_of user (other ++ more)
  unfolding otp_of
  otp_grows user h = left_grows otp_left (change_of user kinds.Otp) one other more h

  recovery_grows : (user : UserId) → recovery_of user one ≡ recovery_of user other → recovery_of user (one ++ more) ≡ recovery_of user (other ++ more)
  unfolding recovery_of
  recovery_grows user h = left_grows recovery_left (change_of user kinds.Recovery) one other more h

  steps_grow : (serial : ℕ) → spent_steps serial one ≡ spent_steps serial other → spent_steps serial (one ++ more) ≡ spent_steps serial (other ++ more)
  unfolding spent_steps
  steps_grow serial h = all_grow (step_spent serial) one other more h

  codes_grow : (serial : ℕ) → codes_spent serial one ≡ codes_spent serial other → codes_spent serial (one ++ more) ≡ codes_spent serial (other ++ more)
  unfolding codes_spent
  codes_grow serial h = fold_grows (number_after serial) 0 one other more h

  tab_grows : (root : RootKey) (tab : TabKey) → tab_state root tab one ≡ tab_state root tab other
      → tab_state root tab (one ++ more) ≡ tab_state root tab (other ++ more)
  unfolding tab_state
  tab_grows root tab h = fold_grows (tab_after root tab) no_tab one other more h

  tabs_in_grow : (moment : ℕ) (root : RootKey) → tabs_known_in moment root one ≡ tabs_known_in moment root other
      → tabs_known_in moment root (one ++ more) ≡ tabs_known_in moment root (other ++ more)
  unfolding tabs_known_in
  tabs_in_grow moment root h = count_grows (opens_known_in moment root) one other more h

  tabs_grow : (moment : ℕ) → tabs_known moment one ≡ tabs_known moment other → tabs_known moment (one ++ more) ≡ tabs_known moment (other ++ more)
  unfolding tabs_known
  tabs_grow moment h = count_grows (opens_known moment) one other more h

  session_grows : (root : RootKey) → session_of root one ≡ session_of root other → session_of root (one ++ more) ≡ session_of root (other ++ more)
  unfolding session_of
  session_grows root h = fold_grows (session_after root) None one other more h

  levels_grow : (session : SessionId) → levels_of session one ≡ levels_of session other → levels_of session (one ++ more) ≡ levels_of session (other ++ more)
  unfolding levels_of
  levels_grow session h = all_grow (level_recorded session) one other more h

  standing_grows : (session : SessionId) → is_standing session one ≡ is_standing session other
      → is_standing session (one ++ more) ≡ is_standing session (other ++ more)
  unfolding is_standing
  standing_grows session h = flag_grows (stands_by session) one other more h

  token_grows : (key : TokenKey) (kind : TokenAction) → token_made key kind one ≡ token_made key kind other
      → token_made key kind (one ++ more) ≡ token_made key kind (other ++ more)
  unfolding token_made
  token_grows key kind h = last_grows (token_by key kind) one other more h

  spent_grows : (key : TokenKey) → is_token_spent key one ≡ is_token_spent key other → is_token_spent key (one ++ more) ≡ is_token_spent key (other ++ more)
  unfolding is_token_spent
  spent_grows key h = any_grows (spends key) one other more h

  tokens_grow : tokens_made one ≡ tokens_made other → tokens_made (one ++ more) ≡ tokens_made (other ++ more)
  unfolding tokens_made
  tokens_grow h = count_grows makes_token one other more h

-- ---- all of them

pub grows : (one other more : List Fact) → AnswerAlike one other → AnswerAlike (one ++ more) (other ++ more)
grows one other more alike =
    record {
      realm = realm_grows one other more alike.realm;
      version = version_grows one other more alike.version;
      realm_of = λ version. realm_of_grows one other more version (alike.realm_of version);
      tab_serial = tab_serial_grows one other more alike.tab_serial;
      stored_serial = stored_serial_grows one other more alike.stored_serial;
      named = λ name. named_grows one other more name (alike.named name);
      name = λ user. name_grows one other more user (alike.name user);
      roles = λ user. roles_grow one other more user (alike.roles user);
      disabled = λ user. disabled_grows one other more user (alike.disabled user);
      failures = λ user. failures_grow one other more user (alike.failures user);
      pending = λ user action. pending_grows one other more user action (alike.pending user action);
      password = λ user. password_grows one other more user (alike.password user);
      otp = λ user. otp_grows one other more user (alike.otp user);
      recovery = λ user. recovery_grows one other more user (alike.recovery user);
      steps = λ serial. steps_grow one other more serial (alike.steps serial);
      codes = λ serial. codes_grow one other more serial (alike.codes serial);
      tab = λ root tab. tab_grows one other more root tab (alike.tab root tab);
      tabs_in = λ moment root. tabs_in_grow one other more moment root (alike.tabs_in moment root);
      tabs = λ moment. tabs_grow one other more moment (alike.tabs moment);
      evidence = λ tab user id kind. evidence_grows tab user id kind one other more (alike.evidence tab user id kind);
      session = λ root. session_grows one other more root (alike.session root);
      levels = λ session. levels_grow one other more session (alike.levels session);
      standing = λ session. standing_grows one other more session (alike.standing session);
      sessions = sessions_grow one other more alike.sessions;
      token = λ key kind. token_grows one other more key kind (alike.token key kind);
      spent = λ key. spent_grows one other more key (alike.spent key);
      tokens = tokens_grow one other more alike.tokens;
    }
