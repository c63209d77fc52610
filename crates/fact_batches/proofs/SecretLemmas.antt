-- The secrets whose keys facts don't touch stay as they are.
use Rattle.std.proofs.Common.{◌≡◌, ℕ, pos, Bool, true, false, ◌&&◌, ◌==◌, cond, List, [], ◌++◌, refl, sym, ap, subst, ◌∙◌}
use Rattle.std.specs.Prelude.{Option, Some, None, option_map, option_and_then, decimal}
use Rattle.std.specs.List.{list_any}
use Rattle.std.specs.Option.{option_or}
use Rattle.std.proofs.lemmas.List.Folds.{list_any-append}
use Rattle.std.proofs.lemmas.Option.{same_Some}
use Rattle.login_base.specs.declared.id.TabKey.{TabKey}
use Rattle.login_base.specs.declared.id.UserId.{UserId}
use Rattle.conditions.specs.declared.secret_kind.SecretKind.{SecretKind}
use Rattle.conditions.specs.declared.secret_kind.SecretKind.TheVariants as kinds
use Rattle.conditions.specs.Secrets.{same_secret}
use Rattle.keeper_rows.specs.declared.change.RowKey.TheVariants as keys
use Rattle.keeper_rows.specs.declared.rows.SecretRow.{SecretRow}
use Rattle.facts.specs.declared.fact.Fact.{Fact}
use Rattle.facts.specs.declared.fact.Fact.TheVariants as events
use Rattle.facts.specs.declared.secret.Secret.{Secret}
use Rattle.facts.specs.declared.secret.Secret.TheVariants as secrets
use Rattle.facts.specs.declared.user_password.UserPassword.{UserPassword}
use Rattle.facts.specs.Places.{last_of}
use Rattle.facts.specs.Secrets.{kept_password, password_set, password_of, change_of, otp_left, otp_of, recovery_left, recovery_of, KeptOtp, KeptRecovery}
use Rattle.facts.specs.Spent.{step_spent, spent_steps, number_after, codes_spent}
use Rattle.facts.proofs.PlacesLemmas.{last_of_append}
use Rattle.fact_columns.specs.Bodies.{password_body, recovery_body}
use Rattle.fact_columns.specs.Words.{steps_text}
use Rattle.fact_rows.specs.declared.holder.Holder.{Holder}
use Rattle.fact_rows.specs.Found.{set_as, holder_of}
use Rattle.fact_rows.specs.Rows.{is_key, secret_with, spent_of, if_own, held_row, secret_row, secret_serial}
use Rattle.fact_batches.specs.Touched.{secret_keys, former_keys}
use Rattle.fact_batches.proofs.ChangeLemmas.{equal_numbers}
use Rattle.fact_batches.proofs.KeptLemmas.{neither, last_kept, fold_kept, flat_kept, picked_from, then_same}
use Rattle.fact_batches.proofs.TouchedLemmas.{is_among, concerns, other_serial}

-- ---- what a change leaves has its serial

kept_serial : (serial : ℕ) (secret : Secret) (own : UserPassword) → kept_password serial secret ≡ Some own → serial ≡ own.serial
kept_serial serial (secrets.Password hash) own h = ap (λ (x : UserPassword). x.serial) (same_Some (record { serial = serial; hash = hash }) own h)
kept_serial serial secret own h = absurd cc

otp_serial : (user : UserId) (kind : SecretKind) (serial : ℕ) (secret : Secret) (by : Option TabKey) (own : KeptOtp) → otp_left (events.SecretSet user kind serial secret by) ≡ Some own → serial ≡ own.serial
otp_serial user kind serial (secrets.Otp key) by own h = ap (λ (x : KeptOtp). x.serial) (same_Some (record { serial = serial; key = key }) own h)
otp_serial user kind serial secret by own h = absurd cc

recovery_serial : (user : UserId) (kind : SecretKind) (serial : ℕ) (secret : Secret) (by : Option TabKey) (own : KeptRecovery) → recovery_left (events.SecretSet user kind serial secret by) ≡ Some own → serial ≡ own.serial
recovery_serial user kind serial (secrets.Recovery digests) by own h = ap (λ (x : KeptRecovery). x.serial) (same_Some (record { serial = serial; digests = digests }) own h)
recovery_serial user kind serial secret by own h = absurd cc

both_hold : {A : Type 0} (a b : Bool) (x y : A) → cond (a && b) (Some x) None ≡ Some y → (a ≡ true) × (b ≡ true) × (x ≡ y)
both_hold true true x y h = (refl, refl, same_Some x y h)
both_hold true false x y h = absurd cc
both_hold false b x y h = absurd cc

one_holds : {A : Type 0} (a : Bool) (x y : A) → cond a (Some x) None ≡ Some y → (a ≡ true) × (x ≡ y)
one_holds true x y h = (refl, same_Some x y h)
one_holds false x y h = absurd cc

same_kind : (a b : SecretKind) → same_secret a b ≡ true → a ≡ b
same_kind kinds.Password kinds.Password h = refl
same_kind kinds.Otp kinds.Otp h = refl
same_kind kinds.Recovery kinds.Recovery h = refl
same_kind a b h = absurd cc

as_user : ℕ → UserId
as_user n = record { 0 = n }

same_user : (a b : UserId) → (a.0 == b.0) ≡ true → a ≡ b
unfolding as_user
same_user a b h = ap as_user (equal_numbers a.0 b.0 h)

module _ (before : List Fact) (n : ℕ) (key : is_key n ≡ true) where
  abbrev of_secret : Fact → Bool
  of_secret f = concerns before (keys.Secret (pos n)) f

  no_step : (f : Fact) → of_secret f ≡ false → step_spent n f ≡ []
  no_step (events.SpentStep credential step) h = rw (other_serial n credential key (neither _ _ h).0) refl
  no_step f h = refl

  no_number : (last : ℕ) (f : Fact) → of_secret f ≡ false → number_after n last f ≡ last
  no_number last (events.SpentRecovery credential number) h = rw (other_serial n credential key (neither _ _ h).0) refl
  no_number last f h = refl

  steps_kept : (added : List Fact) → list_any of_secret added ≡ false → spent_steps n (before ++ added) ≡ spent_steps n before
  unfolding spent_steps
  steps_kept added h = flat_kept of_secret (step_spent n) no_step before added h

  codes_kept : (added : List Fact) → list_any of_secret added ≡ false → codes_spent n (before ++ added) ≡ codes_spent n before
  unfolding codes_spent
  codes_kept added h = fold_kept of_secret (number_after n) no_number 0 before added h

  -- what a change of a secret that doesn't touch the key has to do with the serial: nothing, nor has what it replaces
  set_apart : (of : UserId) (kind : SecretKind) (serial : ℕ) (secret : Secret) (by : Option TabKey) → of_secret (events.SecretSet of kind serial secret by) ≡ false
      → ((serial == n) ≡ false) × ((s : ℕ) → secret_serial of kind before ≡ Some s → (s == n) ≡ false)
  set_apart of kind serial secret by h =
      let k = keys.Secret (pos n) in
      let parts = neither _ _ (sym (list_any-append _ (former_keys (secret_serial of kind before)) (secret_keys serial)) ∙ (neither _ _ h).0) in
      (other_serial n serial key parts.1, λ s e. other_serial n s key (sym (ap (λ o. is_among (keys.Secret (pos n)) (former_keys o)) e) ∙ parts.0))

  not_set : (f : Fact) → of_secret f ≡ false → set_as n f ≡ None
  not_set (events.SecretSet of kind serial secret by) h = rw (set_apart of kind serial secret by h).0 refl
  not_set f h = refl

  holder_kept : (added : List Fact) → list_any of_secret added ≡ false → holder_of n (before ++ added) ≡ holder_of n before
  unfolding holder_of
  holder_kept added h = last_kept of_secret (set_as n) not_set before added h

  nothing_held : {K : Type 0} (serial : K → ℕ) (row : K → SecretRow) (o : Option K) → ((own : K) → o ≡ Some own → (serial own == n) ≡ false)
      → option_and_then (λ own. if_own n (serial own) (row own)) o ≡ None
  nothing_held serial row None apart = refl
  nothing_held serial row (Some own) apart = rw (apart own refl) refl

  held_kept : {B K : Type 0} (pick : Fact → Option B) (left : B → Option K) (serial : K → ℕ) (now then : K → SecretRow)
      → ((f : Fact) (b : B) → pick f ≡ Some b → of_secret f ≡ false
      → ((own : K) → left b ≡ Some own → (serial own == n) ≡ false) × ((own : K) → option_and_then left (last_of pick before) ≡ Some own → (serial own == n) ≡ false))
      → ((own : K) → now own ≡ then own) → (added : List Fact) → list_any of_secret added ≡ false
      → option_and_then (λ own. if_own n (serial own) (now own)) (option_and_then left (last_of pick (before ++ added)))
      ≡ option_and_then (λ own. if_own n (serial own) (then own)) (option_and_then left (last_of pick before))
  held_kept {B} {K} pick left serial now then changed same added h =
      ap (λ o. option_and_then (λ own. if_own n (serial own) (now own)) (option_and_then left o)) (last_of_append pick before added)
      ∙ go (last_of pick added) refl
    where
      go : (o : Option B) → last_of pick added ≡ o
          → option_and_then (λ own. if_own n (serial own) (now own)) (option_and_then left (option_or o (last_of pick before)))
          ≡ option_and_then (λ own. if_own n (serial own) (then own)) (option_and_then left (last_of pick before))
      go None e =
          then_same (λ own. if_own n (serial own) (now own)) (λ own. if_own n (serial own) (then own)) (λ own. ap (if_own n (serial own)) (same own))
          (option_and_then left (last_of pick before))
      go (Some b) e =
          let found = picked_from of_secret pick added b h e in
          let apart = changed found.0 b found.1 found.2 in
          nothing_held serial now (left b) apart.0 ∙ sym (nothing_held serial then (option_and_then left (last_of pick before)) apart.1)

  password_changed : (user : UserId) (f : Fact) (b : Option UserPassword) → password_set user f ≡ Some b → of_secret f ≡ false
      → ((own : UserPassword) → b ≡ Some own → (own.serial == n) ≡ false) × ((own : UserPassword) → option_and_then (λ kept. kept) (last_of (password_set user) before) ≡ Some own → (own.serial == n) ≡ false)
  unfolding secret_serial password_of
  password_changed user (events.SecretSet of kinds.Password serial secret by) b h k =
      let is = one_holds (of.0 == user.0) (kept_password serial secret) b h in
      let apart = set_apart of kinds.Password serial secret by k in
      let who = same_user of user is.0 in (
        λ own e. subst (λ x. (x == n) ≡ false) (kept_serial serial secret own (is.1 ∙ e)) apart.0,
        λ own e. apart.1 own.serial (ap (λ u. secret_serial u kinds.Password before) who ∙ ap (option_map (λ (x : UserPassword). x.serial)) e),
      )
  password_changed user f b h k = absurd cc

  otp_changed : (user : UserId) (f b : Fact) → change_of user kinds.Otp f ≡ Some b → of_secret f ≡ false
      → ((own : KeptOtp) → otp_left b ≡ Some own → (own.serial == n) ≡ false) × ((own : KeptOtp) → option_and_then otp_left (last_of (change_of user kinds.Otp) before) ≡ Some own → (own.serial == n) ≡ false)
  unfolding secret_serial otp_of
  otp_changed user (events.SecretSet of kind serial secret by) b h k =
      let is = both_hold (of.0 == user.0) (same_secret kinds.Otp kind) (events.SecretSet of kind serial secret by) b h in
      let apart = set_apart of kind serial secret by k in
      let who = same_user of user is.0 in
      let what = same_kind kinds.Otp kind is.1 in (
        λ own e. subst (λ x. (x == n) ≡ false) (otp_serial of kind serial secret by own (ap otp_left is.2 ∙ e)) apart.0,
        λ own e. apart.1 own.serial (ap (λ u. secret_serial u kind before) who ∙ ap (λ w. secret_serial user w before) (sym what) ∙ ap (option_map (λ (x : KeptOtp). x.serial)) e),
      )
  otp_changed user f b h k = absurd cc

  recovery_changed : (user : UserId) (f b : Fact) → change_of user kinds.Recovery f ≡ Some b → of_secret f ≡ false
      → ((own : KeptRecovery) → recovery_left b ≡ Some own → (own.serial == n) ≡ false) × ((own : KeptRecovery) → option_and_then recovery_left (last_of (change_of user kinds.Recovery) before) ≡ Some own → (own.serial == n) ≡ false)
  unfolding secret_serial recovery_of
  recovery_changed user (events.SecretSet of kind serial secret by) b h k =
      let is = both_hold (of.0 == user.0) (same_secret kinds.Recovery kind) (events.SecretSet of kind serial secret by) b h in
      let apart = set_apart of kind serial secret by k in
      let who = same_user of user is.0 in
      let what = same_kind kinds.Recovery kind is.1 in (
        λ own e. subst (λ x. (x == n) ≡ false) (recovery_serial of kind serial secret by own (ap recovery_left is.2 ∙ e)) apart.0,
        λ own e. apart.1 own.serial (ap (λ u. secret_serial u kind before) who ∙ ap (λ w. secret_serial user w before) (sym what) ∙ ap (option_map (λ (x : KeptRecovery). x.serial)) e),
      )
  recovery_changed user f b h k = absurd cc

  held_row_kept : (added : List Fact) → list_any of_secret added ≡ false → (user : UserId) (kind : SecretKind) → held_row n (before ++ added) user kind ≡ held_row n before user kind
  unfolding password_of otp_of recovery_of
  held_row_kept added h user kinds.Password =
      held_kept (password_set user) (λ kept. kept) (λ (own : UserPassword). own.serial) (λ own. secret_with n user kinds.Password (password_body own.hash) [])
      (λ own. secret_with n user kinds.Password (password_body own.hash) []) (password_changed user) (λ own. refl) added h
  held_row_kept added h user kinds.Otp =
      held_kept (change_of user kinds.Otp) otp_left (λ (own : KeptOtp). own.serial) (λ own. secret_with n user kinds.Otp own.key (steps_text (spent_steps n (before ++ added))))
      (λ own. secret_with n user kinds.Otp own.key (steps_text (spent_steps n before))) (otp_changed user) (λ own. rw (steps_kept added h) refl) added h
  held_row_kept added h user kinds.Recovery =
      held_kept (change_of user kinds.Recovery) recovery_left (λ (own : KeptRecovery). own.serial)
      (λ own. secret_with n user kinds.Recovery (recovery_body own.digests) (decimal (spent_of n (before ++ added) own.digests)))
      (λ own. secret_with n user kinds.Recovery (recovery_body own.digests) (decimal (spent_of n before own.digests))) (recovery_changed user) (λ own. rw (codes_kept added h) refl) added h

  pub secret_row_kept : (added : List Fact) → list_any of_secret added ≡ false → secret_row n (before ++ added) ≡ secret_row n before
  unfolding secret_row
  secret_row_kept added h =
      ap (λ o. cond (is_key n) o None)
      (ap (option_and_then (λ (x : Holder). held_row n (before ++ added) x.user x.kind)) (holder_kept added h)
      ∙ then_same (λ (x : Holder). held_row n (before ++ added) x.user x.kind) (λ (x : Holder). held_row n before x.user x.kind) (λ x. held_row_kept added h x.user x.kind) (holder_of n before))
