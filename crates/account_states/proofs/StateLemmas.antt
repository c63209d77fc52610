-- How accounts stand behind more facts.
use Rattle.std.proofs.Common.{rules, ◌≡◌, ℕ, Bool, true, false, ◌==◌, List, [], ◌∷◌, ◌++◌, Option, Some, None, refl, ap, sym, ◌∙◌}
use Rattle.std.specs.Prelude.{fold, unwrap_or, if◌then◌else◌}
use Rattle.std.specs.List.{list_any}
use Rattle.std.specs.Option.{option_or}
use Rattle.std.proofs.lemmas.Bool.{or_parts}
use Rattle.lockout.specs.declared.policy.Policy.{Policy}
use Rattle.lockout.specs.declared.standing.Standing.{Standing}
use Rattle.lockout.specs.Standing.{no_failures, struck}
use Rattle.lockout.proofs.Struck.{stays_closed}
use Rattle.login_base.specs.declared.id.SessionId.{SessionId}
use Rattle.login_base.specs.declared.id.TabKey.{TabKey}
use Rattle.login_base.specs.declared.id.UserId.{UserId}
use Rattle.realm_data.specs.declared.realm_parts.RealmParts.{RealmParts}
use Rattle.realm_data.specs.RealmBuiltin.{builtin_realm}
use Rattle.facts.specs.declared.fact.Fact.{Fact}
use Rattle.facts.specs.declared.fact.Fact.TheVariants as events
use Rattle.facts.specs.Accounts.{disabled_by, is_disabled}
use Rattle.facts.specs.Places.{last_of}
use Rattle.facts.specs.Realms.{realm_put, current_realm}
use Rattle.facts.proofs.PlacesLemmas.{fold_append, last_of_append}
use Rattle.account_states.specs.Carrying.{carried_after, disabled_after}
use Rattle.account_states.specs.Standings.{policy_with, standing_with, failures_after, no_facts, failures_of, standing_of, renews, moves_standing}
use Rattle.account_states.specs.States.{state_of, is_disabling, moves_state}
use Rattle.account_states.specs.declared.failures.Failures.{Failures}
use Rattle.account_states.specs.declared.state.AccountState.{AccountState}
use Rattle.account_states.specs.declared.state.Carried.{Carried}

newest : {A : Type 0} (later one : Option A) (old : A) → unwrap_or later (unwrap_or one old) ≡ unwrap_or (option_or later one) old
newest (Some x) one old = refl
newest None one old = refl

-- ---- what is carried

module _ (user : UserId) where
  apart : (c : Carried) (facts : List Fact)
      → fold (carried_after user) c facts ≡ record { failures = fold (failures_after user) c.failures facts; disabled = fold (disabled_after user) c.disabled facts }
  apart c [] = refl
  apart c (fact ∷ facts) = apart (carried_after user c fact) facts

  disabled_from : (disabled : Bool) (facts : List Fact) → fold (disabled_after user) disabled facts ≡ unwrap_or (last_of (disabled_by user) facts) disabled
  disabled_from disabled [] = refl
  disabled_from disabled (fact ∷ facts) = disabled_from (disabled_after user disabled fact) facts ∙ newest (last_of (disabled_by user) facts) (disabled_by user fact) disabled

  abbrev state_in : Carried → AccountState
  state_in c = record { standing = c.failures.standing; disabled = c.disabled }

  pub carried_state : (c : Carried) (facts : List Fact) → c ≡ fold (carried_after user) (record { failures = no_facts; disabled = false }) facts
      → state_in c ≡ state_of user facts
  unfolding standing_of failures_of is_disabled
  carried_state c facts is =
      ap state_in (is ∙ apart _ facts)
      ∙ ap (λ (disabled : Bool). record { standing = (fold (failures_after user) no_facts facts).standing; disabled = disabled }) (disabled_from false facts)

-- ---- more facts

module _ (user : UserId) where
  pub failures_more : (old more : List Fact) → failures_of user (old ++ more) ≡ fold (failures_after user) (failures_of user old) more
  unfolding failures_of
  failures_more old more = fold_append (failures_after user) no_facts old more

  pub standing_more : (old more : List Fact) → standing_of user (old ++ more) ≡ (fold (failures_after user) (failures_of user old) more).standing
  unfolding standing_of
  standing_more old more = ap (λ (f : Failures). f.standing) (failures_more old more)

  pub is_disabled_more : (old more : List Fact) → is_disabled user (old ++ more) ≡ unwrap_or (last_of (disabled_by user) more) (is_disabled user old)
  unfolding is_disabled
  is_disabled_more old more =
      ap (λ (o : Option Bool). unwrap_or o false) (last_of_append (disabled_by user) old more)
      ∙ sym (newest (last_of (disabled_by user) more) (last_of (disabled_by user) old) false)

  -- ---- the policy is that of the realm in force

  policy_put : (before : Failures) (realm : RealmParts) (fact : Fact) → before.policy ≡ realm.lockout → policy_with before.policy fact ≡ (unwrap_or (realm_put fact) realm).lockout
  policy_put before realm (events.RealmPut version new) is = refl
  policy_put before realm fact is = is

  policy_from : (before : Failures) (realm : RealmParts) (facts : List Fact) → before.policy ≡ realm.lockout
      → (fold (failures_after user) before facts).policy ≡ (unwrap_or (last_of realm_put facts) realm).lockout
  policy_from before realm [] is = is
  policy_from before realm (fact ∷ facts) is =
      policy_from (failures_after user before fact) (unwrap_or (realm_put fact) realm) facts (policy_put before realm fact is)
      ∙ ap (λ (r : RealmParts). r.lockout) (newest (last_of realm_put facts) (realm_put fact) realm)

  pub policy_in_force : (facts : List Fact) → (failures_of user facts).policy ≡ (unwrap_or (current_realm facts) builtin_realm).lockout
  unfolding failures_of current_realm builtin_realm
  policy_in_force facts = policy_from no_facts builtin_realm facts refl

  -- a failure counts by the policy of the realm in force
  pub standing_failed : (facts : List Fact) (moment : ℕ)
      → standing_of user (facts ++ events.Failed user moment ∷ []) ≡ struck (unwrap_or (current_realm facts) builtin_realm).lockout moment (standing_of user facts)
  unfolding standing_of
  standing_failed facts moment =
      standing_more facts (events.Failed user moment ∷ [])
      ∙ own_failure (failures_of user facts).policy (failures_of user facts).standing
      ∙ ap (λ (p : Policy). struck p moment (failures_of user facts).standing) (policy_in_force facts)
    where
      own_failure : (policy : Policy) (standing : Standing) → standing_with user policy standing (events.Failed user moment) ≡ struck policy moment standing
      own_failure policy standing = search rules
      -- a completed login clears all failures

  pub standing_completed : (facts : List Fact) (tab : TabKey) (session : SessionId) (moment : ℕ) → standing_of user (facts ++ events.Completed tab user session moment ∷ []) ≡ no_failures
  standing_completed facts tab session moment =
      standing_more facts (events.Completed tab user session moment ∷ []) ∙ own_login (failures_of user facts).policy (failures_of user facts).standing
    where
      own_login : (policy : Policy) (standing : Standing) → standing_with user policy standing (events.Completed tab user session moment) ≡ no_failures
      own_login policy standing = search rules

  -- so does an administrator who enables the account
  pub standing_enabled : (facts : List Fact) → standing_of user (facts ++ events.Enabled user ∷ []) ≡ no_failures
  standing_enabled facts = standing_more facts (events.Enabled user ∷ []) ∙ enabled (failures_of user facts).policy (failures_of user facts).standing
    where
      enabled : (policy : Policy) (standing : Standing) → standing_with user policy standing (events.Enabled user) ≡ no_failures
      enabled policy standing = search rules

  -- ---- facts that leave how the account stands

  other : {A : Type 0} (is : Bool) (new old : A) → is ≡ false → (if is then new else old) ≡ old
  other true new old h = absurd cc
  other false new old h = refl

  unmoved : (policy : Policy) (standing : Standing) (fact : Fact) → moves_standing user fact ≡ false → standing_with user policy standing fact ≡ standing
  unmoved policy standing (events.Failed of moment) h = other (of.0 == user.0) (struck policy moment standing) standing (or_parts _ _ h).0
  unmoved policy standing (events.Completed tab of session moment) h = other (of.0 == user.0) no_failures standing h
  unmoved policy standing (events.Enabled of) h = other (of.0 == user.0) no_failures standing h
  unmoved policy standing (events.Standing of value) h = other (of.0 == user.0) value standing h
  unmoved policy standing fact h = refl

  all_unmoved : (before : Failures) (facts : List Fact) → list_any (moves_standing user) facts ≡ false → (fold (failures_after user) before facts).standing ≡ before.standing
  all_unmoved before [] h = refl
  all_unmoved before (fact ∷ facts) h =
      let parts = or_parts (moves_standing user fact) (list_any (moves_standing user) facts) h in
      all_unmoved (failures_after user before fact) facts parts.1 ∙ unmoved before.policy before.standing fact parts.0

  pub standing_kept : (old more : List Fact) → list_any (moves_standing user) more ≡ false → standing_of user (old ++ more) ≡ standing_of user old
  unfolding standing_of
  standing_kept old more h = standing_more old more ∙ all_unmoved (failures_of user old) more h

  says_nothing : (fact : Fact) → moves_state user fact ≡ false → disabled_by user fact ≡ None
  says_nothing (events.Disabled of) h = other (of.0 == user.0) (Some true) None (or_parts _ _ h).0
  says_nothing (events.Enabled of) h = other (of.0 == user.0) (Some false) None h
  says_nothing fact h = refl

  say_nothing : (facts : List Fact) → list_any (moves_state user) facts ≡ false → last_of (disabled_by user) facts ≡ None
  say_nothing [] h = refl
  say_nothing (fact ∷ facts) h =
      let parts = or_parts (moves_state user fact) (list_any (moves_state user) facts) h in
      rw (say_nothing facts parts.1) (says_nothing fact parts.0)

  pub disabled_kept : (old more : List Fact) → list_any (moves_state user) more ≡ false → is_disabled user (old ++ more) ≡ is_disabled user old
  disabled_kept old more h = is_disabled_more old more ∙ ap (λ (o : Option Bool). unwrap_or o (is_disabled user old)) (say_nothing more h)

  moves_less : (facts : List Fact) → list_any (moves_state user) facts ≡ false → list_any (moves_standing user) facts ≡ false
  moves_less [] h = refl
  moves_less (fact ∷ facts) h =
      let parts = or_parts (moves_state user fact) (list_any (moves_state user) facts) h in
      rw ((or_parts (is_disabling user fact) (moves_standing user fact) parts.0).1, moves_less facts parts.1) refl

  pub state_kept : (old more : List Fact) → list_any (moves_state user) more ≡ false → state_of user (old ++ more) ≡ state_of user old
  state_kept old more h = rw (standing_kept old more (moves_less more h), disabled_kept old more h) refl

  -- ---- an account that failures closed

  still_closed : (policy : Policy) (standing : Standing) (fact : Fact) → renews user fact ≡ false → standing.permanent ≡ true → (standing_with user policy standing fact).permanent ≡ true
  still_closed policy standing (events.Failed of moment) h closed = either (of.0 == user.0)
    where
      either : (own : Bool) → (if own then struck policy moment standing else standing).permanent ≡ true
      either true = stays_closed policy moment standing closed
      either false = closed
  still_closed policy standing (events.Completed tab of session moment) h closed = rw h closed
  still_closed policy standing (events.Enabled of) h closed = rw h closed
  still_closed policy standing (events.Standing of value) h closed = rw h closed
  still_closed policy standing fact h closed = closed

  all_closed : (before : Failures) (facts : List Fact) → list_any (renews user) facts ≡ false → before.standing.permanent ≡ true → (fold (failures_after user) before facts).standing.permanent ≡ true
  all_closed before [] h closed = closed
  all_closed before (fact ∷ facts) h closed =
      let parts = or_parts (renews user fact) (list_any (renews user) facts) h in
      all_closed (failures_after user before fact) facts parts.1 (still_closed before.policy before.standing fact parts.0 closed)

  -- no failure opens it
  pub permanent_kept : (old more : List Fact) → list_any (renews user) more ≡ false → (standing_of user old).permanent ≡ true → (standing_of user (old ++ more)).permanent ≡ true
  unfolding standing_of
  permanent_kept old more h closed = ap (λ (s : Standing). s.permanent) (standing_more old more) ∙ all_closed (failures_of user old) more h closed
