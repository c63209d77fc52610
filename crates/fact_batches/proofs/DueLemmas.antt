-- A row that is due at a key has this key.
use Rattle.std.proofs.Common.{◌≡◌, ℕ, pos, negsuc, Bool, true, false, ◌==◌, cond, List, [], refl, sym, ap, ◌∙◌}
use Rattle.std.specs.Prelude.{Option, Some, None, option_map, option_and_then, decimal}
use Rattle.std.proofs.lemmas.Option.{same_Some}
use Rattle.login_base.specs.IdText.{id_of}
use Rattle.login_base.specs.declared.id.Id.{Id}
use Rattle.login_base.specs.declared.id.UserId.{UserId}
use Rattle.login_base.proofs.HexText.{id_found}
use Rattle.conditions.specs.declared.secret_kind.SecretKind.{SecretKind}
use Rattle.conditions.specs.declared.secret_kind.SecretKind.TheVariants as kinds
use Rattle.keeper_rows.specs.declared.change.Row.{Row}
use Rattle.keeper_rows.specs.declared.change.Row.TheVariants as rows
use Rattle.keeper_rows.specs.declared.change.RowKey.{RowKey}
use Rattle.keeper_rows.specs.declared.change.RowKey.TheVariants as keys
use Rattle.keeper_rows.specs.declared.rows.RealmRow.{RealmRow}
use Rattle.keeper_rows.specs.declared.rows.AccountRow.{AccountRow}
use Rattle.keeper_rows.specs.declared.rows.SecretRow.{SecretRow}
use Rattle.keeper_rows.specs.declared.rows.SessionRow.{SessionRow}
use Rattle.keeper_rows.specs.declared.rows.TokenRow.{TokenRow}
use Rattle.facts.specs.declared.fact.Fact.{Fact}
use Rattle.facts.specs.declared.user_password.UserPassword.{UserPassword}
use Rattle.facts.specs.Accounts.{name_of}
use Rattle.facts.specs.Secrets.{password_of, otp_of, recovery_of, KeptOtp, KeptRecovery}
use Rattle.facts.specs.Spent.{spent_steps}
use Rattle.account_states.specs.Standings.{standing_of}
use Rattle.fact_columns.specs.Bodies.{password_body, recovery_body}
use Rattle.fact_columns.specs.Words.{steps_text}
use Rattle.fact_rows.specs.declared.holder.Holder.{Holder}
use Rattle.fact_rows.specs.Found.{session_kept, token_kept, holder_of}
use Rattle.fact_rows.specs.Rows.{is_key, realm_row, account_with, account_row, secret_with, spent_of, secret_row, held_row, if_own, session_with, session_row, token_with, token_row, mark_row}
use Rattle.fact_rows.specs.Due.{realm_at, realm_of_row, if_version, account_at, secret_at, session_at, token_at, row_due}
use Rattle.fact_batches.proofs.ChangeLemmas.{key_of, equal_numbers, Own}

map_of : {A R : Type 0} (f : A → R) (o : Option A) (r : R) → option_map f o ≡ Some r → (x : A) × (f x ≡ r)
map_of f None r h = absurd cc
map_of f (Some x) r h = (x, same_Some (f x) r h)

if_of : {R : Type 0} (b : Bool) (o : Option R) (r : R) → cond b o None ≡ Some r → o ≡ Some r
if_of true o r h = h
if_of false o r h = absurd cc

then_of : {A R : Type 0} (f : A → Option R) (o : Option A) (r : R) → option_and_then f o ≡ Some r → (x : A) × (o ≡ Some x) × (f x ≡ Some r)
then_of f None r h = absurd cc
then_of f (Some x) r h = (x, refl, h)

mapped_own : {R : Type 0} (f : R → Row) (key : RowKey) (o : Option R) → ((r : R) → o ≡ Some r → key_of (f r) ≡ key) → (row : Row) → option_map f o ≡ Some row → key_of row ≡ key
mapped_own f key o own row h = go o refl h
  where
    go : (p : Option _) → o ≡ p → option_map f p ≡ Some row → key_of row ≡ key
    go None e h = absurd cc
    go (Some r) e h = ap key_of (sym (same_Some (f r) row h)) ∙ own r e

of_version : (version : ℕ) (o : Option RealmRow) (r : RealmRow) → option_and_then (if_version version) o ≡ Some r → r.version ≡ version
of_version version None r h = absurd cc
of_version version (Some own) r h = go (own.version == version) refl h
  where
    go : (b : Bool) → (own.version == version) ≡ b → cond b (Some own) None ≡ Some r → r.version ≡ version
    go true e h = ap (λ (x : RealmRow). x.version) (sym (same_Some own r h)) ∙ equal_numbers own.version version e
    go false e h = absurd cc

of_account : (n : ℕ) (facts : List Fact) (r : AccountRow) → account_row (record { 0 = n }) facts ≡ Some r → r.id ≡ pos n
unfolding account_row
of_account n facts r h =
    let user : UserId = record { 0 = n } in
    let row : List ℕ → AccountRow = account_with user (standing_of user facts) facts in
    let made = map_of row (name_of user facts) r (if_of (is_key n) (option_map row (name_of user facts)) r h) in
    ap (λ (x : AccountRow). x.id) (sym made.1)

of_own : {K : Type 0} (n : ℕ) (serial : K → ℕ) (made : K → SecretRow) → ((own : K) → (made own).serial ≡ pos n) → (o : Option K) (r : SecretRow)
    → option_and_then (λ own. if_own n (serial own) (made own)) o ≡ Some r → r.serial ≡ pos n
of_own n serial made is None r h = absurd cc
of_own n serial made is (Some own) r h =
    ap (λ (x : SecretRow). x.serial) (sym (same_Some (made own) r (if_of (serial own == n) (Some (made own)) r h))) ∙ is own

of_held : (n : ℕ) (facts : List Fact) (user : UserId) (kind : SecretKind) (r : SecretRow) → held_row n facts user kind ≡ Some r → r.serial ≡ pos n
of_held n facts user kinds.Password r h =
    of_own n (λ (own : UserPassword). own.serial) (λ own. secret_with n user kinds.Password (password_body own.hash) []) (λ own. refl) (password_of user facts) r h
of_held n facts user kinds.Otp r h =
    of_own n (λ (own : KeptOtp). own.serial) (λ own. secret_with n user kinds.Otp own.key (steps_text (spent_steps n facts))) (λ own. refl) (otp_of user facts) r h
of_held n facts user kinds.Recovery r h =
    of_own n (λ (own : KeptRecovery). own.serial)
    (λ own. secret_with n user kinds.Recovery (recovery_body own.digests) (decimal (spent_of n facts own.digests))) (λ own. refl) (recovery_of user facts) r h

of_secret : (n : ℕ) (facts : List Fact) (r : SecretRow) → secret_row n facts ≡ Some r → r.serial ≡ pos n
unfolding secret_row
of_secret n facts r h =
    let row : Holder → Option SecretRow = λ (x : Holder). held_row n facts x.user x.kind in
    let made = then_of row (holder_of n facts) r (if_of (is_key n) (option_and_then row (holder_of n facts)) r h) in
    of_held n facts made.0.user made.0.kind r made.2

of_session : (facts : List Fact) (text : List ℕ) (r : SessionRow) → session_at facts text ≡ Some r → r.id ≡ text
unfolding session_row
of_session facts text r h =
    let read = then_of (λ (id : Id). session_row (record { 0 = id }) facts) (id_of text) r h in
    let made = map_of (session_with (record { 0 = read.0 }) facts) (session_kept (record { 0 = read.0 }) facts) r read.2 in
    ap (λ (x : SessionRow). x.id) (sym made.1) ∙ sym (id_found text read.0 read.1)

of_token : (facts : List Fact) (text : List ℕ) (r : TokenRow) → token_at facts text ≡ Some r → r.key ≡ text
unfolding token_row
of_token facts text r h =
    let read = then_of (λ (id : Id). token_row (record { 0 = id }) facts) (id_of text) r h in
    let made = map_of (token_with (record { 0 = read.0 }) facts) (token_kept (record { 0 = read.0 }) facts) r read.2 in
    ap (λ (x : TokenRow). x.key) (sym made.1) ∙ sym (id_found text read.0 read.1)

pub due_own : (moment : ℕ) (facts : List Fact) → Own (row_due moment facts)
due_own moment facts (keys.Realm version) row h =
    mapped_own realm_of_row (keys.Realm version) (realm_at facts version) (λ r e. ap keys.Realm (of_version version (realm_row facts) r e)) row h
due_own moment facts (keys.Account (pos n)) row h =
    mapped_own rows.Account (keys.Account (pos n)) (account_at facts (pos n)) (λ r e. ap keys.Account (of_account n facts r e)) row h
due_own moment facts (keys.Account (negsuc n)) row h = absurd cc
due_own moment facts (keys.Secret (pos n)) row h =
    mapped_own rows.Secret (keys.Secret (pos n)) (secret_at facts (pos n)) (λ r e. ap keys.Secret (of_secret n facts r e)) row h
due_own moment facts (keys.Secret (negsuc n)) row h = absurd cc
due_own moment facts (keys.Session text) row h =
    mapped_own rows.Session (keys.Session text) (session_at facts text) (λ r e. ap keys.Session (of_session facts text r e)) row h
due_own moment facts (keys.Token text) row h =
    mapped_own rows.Token (keys.Token text) (token_at facts text) (λ r e. ap keys.Token (of_token facts text r e)) row h
due_own moment facts keys.Mark row h = mapped_own rows.Mark keys.Mark (mark_row moment facts) (λ r e. refl) row h
