-- Rows whose keys aren't among those that facts touch stay as they are.
use Rattle.std.proofs.Common.{◌≡◌, ℕ, pos, Bool, true, false, ◌||◌, ◌&&◌, ◌==◌, cond, List, [], ◌++◌, refl, sym, ap, ◌∙◌}
use Rattle.std.specs.Prelude.{Option, None, unwrap_or}
use Rattle.std.specs.List.{list_any}
use Rattle.std.specs.Str.{bytes_eq}
use Rattle.std.proofs.lemmas.Bool.{false≢true}
use Rattle.std.proofs.lemmas.Bool.Decides.{Decides-int_eq}
use Rattle.std.proofs.lemmas.Slice.Eq.{bytes_eq-Decides}
use Rattle.login_base.specs.IdText.{same_id, id_bytes}
use Rattle.login_base.specs.declared.id.Id.{Id}
use Rattle.login_base.specs.declared.id.SessionId.{SessionId}
use Rattle.login_base.specs.declared.id.TokenKey.{TokenKey}
use Rattle.login_base.specs.declared.id.UserId.{UserId}
use Rattle.realm_data.specs.declared.action.Action.{Action}
use Rattle.realm_data.specs.declared.action.Action.TheVariants as actions
use Rattle.keeper_rows.specs.declared.change.RowKey.{RowKey}
use Rattle.keeper_rows.specs.declared.change.RowKey.TheVariants as keys
use Rattle.facts.specs.declared.fact.Fact.{Fact}
use Rattle.facts.specs.declared.fact.Fact.TheVariants as events
use Rattle.facts.specs.declared.tabs.RootSession.{RootSession}
use Rattle.facts.specs.Accounts.{name_put, name_of, roles_put, roles_of, is_disabled}
use Rattle.facts.specs.Actions.{required_by, is_pending}
use Rattle.facts.specs.Levels.{level_recorded, levels_of}
use Rattle.facts.specs.Tokens.{spends, is_token_spent}
use Rattle.account_states.specs.declared.state.AccountState.{AccountState}
use Rattle.account_states.specs.Standings.{standing_of}
use Rattle.account_states.specs.States.{moves_state}
use Rattle.account_states.proofs.StateLemmas.{state_kept}
use Rattle.fact_rows.specs.Found.{kept_after, session_kept, token_made_as, token_kept}
use Rattle.fact_rows.specs.Rows.{is_key, account_with, account_row, session_with, session_row, token_with, token_row}
use Rattle.fact_rows.specs.Stored.{is_opening_value}
use Rattle.fact_batches.specs.Touched.{same_key, account_keys, secret_keys, touched_by}
use Rattle.fact_batches.proofs.ChangeLemmas.{equal_numbers}
use Rattle.fact_batches.proofs.KeptLemmas.{neither, last_kept, fold_kept, flat_kept, any_kept, none_any, map_same}

-- the key is among these
abbrev pub is_among : RowKey → List RowKey → Bool
is_among k all = list_any (λ key. same_key key k) all

-- the fact touches the row at the key, or is an opening value
abbrev pub concerns : List Fact → RowKey → Fact → Bool
concerns before k f = is_among k (touched_by before f) || is_opening_value f

-- ---- serials and ids that differ

pub other_user : (n : ℕ) (user : UserId) → is_key n ≡ true → is_among (keys.Account (pos n)) (account_keys user) ≡ false → (user.0 == n) ≡ false
other_user n user key h = go (user.0 == n) refl
  where
    go : (b : Bool) → (user.0 == n) ≡ b → b ≡ false
    go false e = refl
    go true e =
        let same : user.0 ≡ n = equal_numbers user.0 n e in
        let own : is_among (keys.Account (pos n)) (account_keys user) ≡ true = rw (same, key, (Decides-int_eq (pos n) (pos n)).1 refl) refl in
        absurd (false≢true (sym h ∙ own))

pub other_serial : (n serial : ℕ) → is_key n ≡ true → is_among (keys.Secret (pos n)) (secret_keys serial) ≡ false → (serial == n) ≡ false
other_serial n serial key h = go (serial == n) refl
  where
    go : (b : Bool) → (serial == n) ≡ b → b ≡ false
    go false e = refl
    go true e =
        let same : serial ≡ n = equal_numbers serial n e in
        let own : is_among (keys.Secret (pos n)) (secret_keys serial) ≡ true = rw (same, key, (Decides-int_eq (pos n) (pos n)).1 refl) refl in
        absurd (false≢true (sym h ∙ own))

all_three : (a b c : Bool) → (a && b && c) ≡ true → (a ≡ true) × (b ≡ true) × (c ≡ true)
all_three true true c h = (refl, refl, h)
all_three true false c h = absurd (false≢true h)
all_three false b c h = absurd (false≢true h)

same_ids : (a b : Id) → same_id a b ≡ true → a ≡ b
same_ids a b h =
    let parts = all_three (a.serial == b.serial) (a.high == b.high) (a.low == b.low) h in
    let serial = equal_numbers a.serial b.serial parts.0 in
    let high = equal_numbers a.high b.high parts.1 in
    let low = equal_numbers a.low b.low parts.2 in
    ap (λ (x : ℕ). record { serial = x; high = a.high; low = a.low }) serial
    ∙ ap (λ (x : ℕ). record { serial = b.serial; high = x; low = a.low }) high
    ∙ ap (λ (x : ℕ). record { serial = b.serial; high = b.high; low = x }) low

pub other_id : (text : List ℕ) (id of : Id) → text ≡ id_bytes id → bytes_eq (id_bytes of) text ≡ false → same_id of id ≡ false
other_id text id of own h = go (same_id of id) refl
  where
    go : (b : Bool) → same_id of id ≡ b → b ≡ false
    go false e = refl
    go true e =
        let same : id_bytes of ≡ text = ap id_bytes (same_ids of id e) ∙ sym own in
        absurd (false≢true (sym h ∙ (bytes_eq-Decides (id_bytes of) text).1 same))

-- ---- accounts

module _ (before : List Fact) (n : ℕ) (key : is_key n ≡ true) where
  abbrev user : UserId
  user = record { 0 = n }

  abbrev of_account : Fact → Bool
  of_account f = concerns before (keys.Account (pos n)) f

  name_none : (f : Fact) → of_account f ≡ false → name_put user f ≡ None
  name_none (events.UserPut of name roles) h = rw (other_user n of key (neither _ _ h).0) refl
  name_none f h = refl

  roles_none : (f : Fact) → of_account f ≡ false → roles_put user f ≡ None
  roles_none (events.UserPut of name roles) h = rw (other_user n of key (neither _ _ h).0) refl
  roles_none f h = refl

  required_none : (action : Action) (f : Fact) → of_account f ≡ false → required_by user action f ≡ None
  required_none action (events.ActionSet of kind) h = rw (other_user n of key (neither _ _ h).0) refl
  required_none action (events.ActionDone of kind) h = rw (other_user n of key (neither _ _ h).0) refl
  required_none action f h = refl

  unmoved : (f : Fact) → of_account f ≡ false → moves_state user f ≡ false
  unmoved (events.Disabled of) h = rw (other_user n of key (neither _ _ h).0) refl
  unmoved (events.Enabled of) h = rw (other_user n of key (neither _ _ h).0) refl
  unmoved (events.Failed of moment) h = rw (other_user n of key (neither _ _ h).0) refl
  unmoved (events.Completed tab of session moment) h = rw (other_user n of key (neither _ _ h).0) refl
  unmoved (events.Standing of value) h = absurd cc
  unmoved f h = refl

  pending_kept : (action : Action) (added : List Fact) → list_any of_account added ≡ false → is_pending user (before ++ added) action ≡ is_pending user before action
  unfolding is_pending
  pending_kept action added h = ap (λ o. unwrap_or o false) (last_kept of_account (required_by user action) (required_none action) before added h)

  names_kept : (added : List Fact) → list_any of_account added ≡ false → name_of user (before ++ added) ≡ name_of user before
  unfolding name_of
  names_kept added h = last_kept of_account (name_put user) name_none before added h

  roles_kept : (added : List Fact) → list_any of_account added ≡ false → roles_of user (before ++ added) ≡ roles_of user before
  unfolding roles_of
  roles_kept added h = last_kept of_account (roles_put user) roles_none before added h

  same_account : (after : List Fact) → name_of user after ≡ name_of user before → roles_of user after ≡ roles_of user before → standing_of user after ≡ standing_of user before
      → is_disabled user after ≡ is_disabled user before → ((action : Action) → is_pending user after action ≡ is_pending user before action)
      → account_row user after ≡ account_row user before
  unfolding account_row
  same_account after name roles standing disabled pending =
      ap (λ o. cond (is_key n) o None)
      (map_same (account_with user (standing_of user after) after) (account_with user (standing_of user before) before) (name_of user after) (name_of user before) name
      (λ own. rw (roles, standing, disabled, pending actions.Terms, pending actions.VerifyEmail, pending actions.UpdatePassword, pending actions.ConfigureOtp, pending actions.RecoveryCodes) refl))

  pub account_kept : (added : List Fact) → list_any of_account added ≡ false → account_row user (before ++ added) ≡ account_row user before
  account_kept added h =
      let state = state_kept user before added (none_any of_account (moves_state user) unmoved added h) in
      same_account (before ++ added) (names_kept added h) (roles_kept added h)
      (ap (λ (s : AccountState). s.standing) state) (ap (λ (s : AccountState). s.disabled) state) (λ action. pending_kept action added h)

-- ---- sessions and tokens

module _ (before : List Fact) (text : List ℕ) (id : Id) (own : text ≡ id_bytes id) where
  abbrev session : SessionId
  session = record { 0 = id }

  abbrev of_session : Fact → Bool
  of_session f = concerns before (keys.Session text) f

  apart : (of : Id) → ((bytes_eq (id_bytes of) text || false) || false) ≡ false → same_id of id ≡ false
  apart of h = other_id text id of own (neither _ _ (neither _ _ h).0).0

  unused : (s : Option RootSession) (f : Fact) → of_session f ≡ false → kept_after session s f ≡ s
  unused s (events.Session of root user moment idle most) h = rw (apart of.0 h) refl
  unused s (events.Seen of moment) h = rw (apart of.0 h) refl
  unused s (events.SessionEnd of) h = rw (apart of.0 h) refl
  unused s f h = refl

  no_level : (f : Fact) → of_session f ≡ false → level_recorded session f ≡ []
  no_level (events.Level of level moment) h = rw (apart of.0 h) refl
  no_level f h = refl

  sessions_kept : (added : List Fact) → list_any of_session added ≡ false → session_kept session (before ++ added) ≡ session_kept session before
  unfolding session_kept
  sessions_kept added h = fold_kept of_session (kept_after session) unused None before added h

  levels_kept : (added : List Fact) → list_any of_session added ≡ false → levels_of session (before ++ added) ≡ levels_of session before
  unfolding levels_of
  levels_kept added h = flat_kept of_session (level_recorded session) no_level before added h

  pub session_row_kept : (added : List Fact) → list_any of_session added ≡ false → session_row session (before ++ added) ≡ session_row session before
  unfolding session_row
  session_row_kept added h =
      map_same (session_with session (before ++ added)) (session_with session before) (session_kept session (before ++ added)) (session_kept session before)
      (sessions_kept added h) (λ own. rw (levels_kept added h) refl)

  abbrev token : TokenKey
  token = record { 0 = id }

  abbrev of_token : Fact → Bool
  of_token f = concerns before (keys.Token text) f

  not_made : (f : Fact) → of_token f ≡ false → token_made_as token f ≡ None
  not_made (events.TokenMade of user kind expiry) h = rw (apart of.0 h) refl
  not_made f h = refl

  not_spent : (f : Fact) → of_token f ≡ false → spends token f ≡ false
  not_spent (events.SpentToken of) h = apart of.0 h
  not_spent f h = refl

  tokens_kept : (added : List Fact) → list_any of_token added ≡ false → token_kept token (before ++ added) ≡ token_kept token before
  unfolding token_kept
  tokens_kept added h = last_kept of_token (token_made_as token) not_made before added h

  spending_kept : (added : List Fact) → list_any of_token added ≡ false → is_token_spent token (before ++ added) ≡ is_token_spent token before
  unfolding is_token_spent
  spending_kept added h = any_kept of_token (spends token) not_spent before added h

  pub token_row_kept : (added : List Fact) → list_any of_token added ≡ false → token_row token (before ++ added) ≡ token_row token before
  unfolding token_row
  token_row_kept added h =
      map_same (token_with token (before ++ added)) (token_with token before) (token_kept token (before ++ added)) (token_kept token before)
      (tokens_kept added h) (λ own. rw (spending_kept added h) refl)
