-- Tables that stand for facts, after a batch.
use Rattle.std.proofs.Common.{◌≡◌, ℕ, pos, negsuc, Bool, true, false, not, ◌||◌, ◌==◌, cond, List, [], ◌∷◌, ◌++◌, length, refl, sym, ap, subst, ◌∙◌, arith}
use Rattle.std.specs.Prelude.{Option, Some, None, option_map, option_and_then}
use Rattle.std.specs.List.{list_any, flat_map}
use Rattle.std.proofs.lemmas.Bool.{false≢true}
use Rattle.std.proofs.lemmas.Bool.Decides.{nat_tests}
use Rattle.std.proofs.lemmas.List.Folds.{list_any-append}
use Rattle.login_base.specs.IdText.{id_of}
use Rattle.login_base.specs.declared.id.Id.{Id}
use Rattle.login_base.proofs.HexText.{id_found}
use Rattle.keeper_rows.specs.declared.change.Row.{Row}
use Rattle.keeper_rows.specs.declared.change.Row.TheVariants as rows
use Rattle.keeper_rows.specs.declared.change.RowKey.{RowKey}
use Rattle.keeper_rows.specs.declared.change.RowKey.TheVariants as keys
use Rattle.keeper_rows.specs.declared.tables.Tables.{Tables}
use Rattle.keeper_rows.specs.Applied.{applied}
use Rattle.facts.specs.declared.fact.Fact.{Fact}
use Rattle.fact_rows.specs.Due.{realm_of_row, session_at, token_at, row_due}
use Rattle.fact_rows.specs.Rows.{is_key, account_row, secret_row, session_row, token_row}
use Rattle.fact_rows.specs.StandFor.{row_in, StandFor}
use Rattle.fact_rows.specs.Stored.{is_stored, has_stored, is_opening_value}
use Rattle.fact_batches.specs.Batch.{changes_to, batch_of, stored_moment}
use Rattle.fact_batches.specs.Touched.{same_key, touched_by, noted, all_noted, touched}
use Rattle.fact_batches.proofs.ChangeLemmas.{same_exact, reaches, ordered_applied, all_right, changes_right, changes_reach}
use Rattle.fact_batches.proofs.DueLemmas.{due_own}
use Rattle.fact_batches.proofs.KeptLemmas.{neither, or_false, none_any}
use Rattle.fact_batches.proofs.RealmLemmas.{realm_kept, mark_kept, is_kept_or_opening, untouched}
use Rattle.fact_batches.proofs.SecretLemmas.{secret_row_kept}
use Rattle.fact_batches.proofs.StoredLemmas.{no_batch, some_batch}
use Rattle.fact_batches.proofs.TouchedLemmas.{is_among, concerns, account_kept, session_row_kept, token_row_kept}

-- ---- keys that are noted once

same_back : (a b : RowKey) → same_key a b ≡ true → same_key b a ≡ true
same_back a b h =
    let e = same_exact a b h in
    subst (λ x. same_key x a ≡ true) e (subst (λ x. same_key a x ≡ true) (sym e) h)

there : (k : RowKey) (known : List RowKey) → list_any (same_key k) known ≡ true → is_among k known ≡ true
there k [] h = absurd (false≢true h)
there k (key ∷ known) h = go (same_key k key) refl h (there k known)
  where
    go : (b : Bool) → same_key k key ≡ b → (same_key k key || list_any (same_key k) known) ≡ true → (list_any (same_key k) known ≡ true → is_among k known ≡ true) → is_among k (key ∷ known) ≡ true
    go true e h later = rw (same_back k key e) refl
    go false e h later = let rest = rw e at h in rw (later rest) (or_true (same_key key k))
      where
        or_true : (b : Bool) → (b || true) ≡ true
        or_true true = refl
        or_true false = refl

among_noted : (k key : RowKey) (known : List RowKey) → is_among k (noted known key) ≡ (is_among k known || same_key key k)
among_noted k key known = go (list_any (same_key key) known) refl (same_key key k) refl
  where
    go : (b : Bool) → list_any (same_key key) known ≡ b → (c : Bool) → same_key key k ≡ c → is_among k (cond b known (known ++ key ∷ [])) ≡ (is_among k known || c)
    go true e true s = rw (there k known (subst (λ x. list_any (same_key x) known ≡ true) (same_exact key k s) e)) refl
    go true e false s = sym (or_false (is_among k known))
    go false e c s = list_any-append (λ x. same_key x k) known (key ∷ []) ∙ ap (λ x. is_among k known || x) (or_false (same_key key k) ∙ s)

grouped : (a b c : Bool) → ((a || b) || c) ≡ (a || (b || c))
grouped true b c = refl
grouped false b c = refl

among_all : (k : RowKey) (known more : List RowKey) → is_among k (all_noted known more) ≡ (is_among k known || is_among k more)
among_all k known [] = sym (or_false (is_among k known))
among_all k known (key ∷ more) =
    among_all k (noted known key) more ∙ ap (λ b. b || is_among k more) (among_noted k key known) ∙ grouped (is_among k known) (same_key key k) (is_among k more)

each_among : (before : List Fact) (k : RowKey) (added : List Fact) → is_among k (flat_map (touched_by before) added) ≡ false → list_any is_opening_value added ≡ false
    → list_any (concerns before k) added ≡ false
each_among before k [] h plain = refl
each_among before k (f ∷ added) h plain =
    let parts = neither (is_among k (touched_by before f)) (is_among k (flat_map (touched_by before) added))
    (sym (list_any-append (λ x. same_key x k) (touched_by before f) (flat_map (touched_by before) added)) ∙ h) in
    let values = neither (is_opening_value f) (list_any is_opening_value added) plain in
    rw (parts.0, values.0, each_among before k added parts.1 values.1) refl

not_touched : (before added : List Fact) (k : RowKey) → is_among k (touched before added) ≡ false → list_any is_opening_value added ≡ false → list_any (concerns before k) added ≡ false
unfolding touched
not_touched before added k h plain = each_among before k added (sym (among_all k [] (flat_map (touched_by before) added)) ∙ h) plain

-- ---- rows that stay due

no_account : (n : ℕ) (facts : List Fact) → is_key n ≡ false → account_row (record { 0 = n }) facts ≡ None
unfolding account_row
no_account n facts none = rw none refl

account_same : (before added : List Fact) (n : ℕ) → list_any (concerns before (keys.Account (pos n))) added ≡ false → account_row (record { 0 = n }) (before ++ added) ≡ account_row (record { 0 = n }) before
account_same before added n h = go (is_key n) refl
  where
    go : (b : Bool) → is_key n ≡ b → account_row (record { 0 = n }) (before ++ added) ≡ account_row (record { 0 = n }) before
    go true e = account_kept before n e added h
    go false e = no_account n (before ++ added) e ∙ sym (no_account n before e)

no_secret : (n : ℕ) (facts : List Fact) → is_key n ≡ false → secret_row n facts ≡ None
unfolding secret_row
no_secret n facts none = rw none refl

secret_same : (before added : List Fact) (n : ℕ) → list_any (concerns before (keys.Secret (pos n))) added ≡ false → secret_row n (before ++ added) ≡ secret_row n before
secret_same before added n h = go (is_key n) refl
  where
    go : (b : Bool) → is_key n ≡ b → secret_row n (before ++ added) ≡ secret_row n before
    go true e = secret_row_kept before n e added h
    go false e = no_secret n (before ++ added) e ∙ sym (no_secret n before e)

session_same : (before added : List Fact) (text : List ℕ) → list_any (concerns before (keys.Session text)) added ≡ false → session_at (before ++ added) text ≡ session_at before text
session_same before added text h = go (id_of text) refl
  where
    go : (o : Option Id) → id_of text ≡ o → option_and_then (λ (id : Id). session_row (record { 0 = id }) (before ++ added)) o ≡ option_and_then (λ (id : Id). session_row (record { 0 = id }) before) o
    go None e = refl
    go (Some id) e = session_row_kept before text id (id_found text id e) added h

token_same : (before added : List Fact) (text : List ℕ) → list_any (concerns before (keys.Token text)) added ≡ false → token_at (before ++ added) text ≡ token_at before text
token_same before added text h = go (id_of text) refl
  where
    go : (o : Option Id) → id_of text ≡ o → option_and_then (λ (id : Id). token_row (record { 0 = id }) (before ++ added)) o ≡ option_and_then (λ (id : Id). token_row (record { 0 = id }) before) o
    go None e = refl
    go (Some id) e = token_row_kept before text id (id_found text id e) added h

due_same : (now then : ℕ) (before added : List Fact) (k : RowKey) → same_key keys.Mark k ≡ false → list_any (concerns before k) added ≡ false
    → row_due now (before ++ added) k ≡ row_due then before k
due_same now then before added (keys.Realm v) other h = ap (option_map realm_of_row) (realm_kept before v added h)
due_same now then before added (keys.Account (pos n)) other h = ap (option_map rows.Account) (account_same before added n h)
due_same now then before added (keys.Account (negsuc n)) other h = refl
due_same now then before added (keys.Secret (pos n)) other h = ap (option_map rows.Secret) (secret_same before added n h)
due_same now then before added (keys.Secret (negsuc n)) other h = refl
due_same now then before added (keys.Session text) other h = ap (option_map rows.Session) (session_same before added text h)
due_same now then before added (keys.Token text) other h = ap (option_map rows.Token) (token_same before added text h)
due_same now then before added keys.Mark other h = absurd (false≢true (sym other))

-- ---- the batch

module _ (t : Tables) (before added : List Fact) (changed moment : ℕ) (stand : StandFor t changed before) (plain : list_any is_opening_value added ≡ false) where
  abbrev due : RowKey → Option Row
  due = row_due moment (before ++ added)

  abbrev all : List RowKey
  all = touched before added ++ keys.Mark ∷ []

  row_after : (k : RowKey) → row_in (applied (changes_to due all) t) k ≡ due k
  row_after k =
      all_right due (changes_to due all) t k (changes_right due (due_own moment (before ++ added)) all) stand.ordered
      ∙ ap (λ b. cond b (due k) (row_in t k)) (changes_reach due (due_own moment (before ++ added)) k all)
      ∙ go (is_among k all) refl
    where
      go : (b : Bool) → is_among k all ≡ b → cond b (due k) (row_in t k) ≡ due k
      go true e = refl
      go false e =
          let parts = neither _ _ (sym (list_any-append (λ x. same_key x k) (touched before added) (keys.Mark ∷ [])) ∙ e) in
          stand.same k ∙ sym (due_same moment changed before added k (neither _ _ parts.1).0 (not_touched before added k parts.0 plain))

  stored_stands : has_stored added ≡ true → StandFor (applied (batch_of moment before added) t) (stored_moment changed moment added) (before ++ added)
  stored_stands some = rw (some_batch moment before added some, some) (record { ordered = ordered_applied (changes_to due all) t stand.ordered; same = row_after })

  none_kept : has_stored added ≡ false → list_any is_kept_or_opening added ≡ false
  none_kept none = each added none plain
    where
      each : (fs : List Fact) → has_stored fs ≡ false → list_any is_opening_value fs ≡ false → list_any is_kept_or_opening fs ≡ false
      each [] h k = refl
      each (f ∷ fs) h k =
          let own = neither (is_stored f) (has_stored fs) h in
          let values = neither (is_opening_value f) (list_any is_opening_value fs) k in
          rw (own.0, values.0, each fs own.1 values.1) refl

  row_same : has_stored added ≡ false → (k : RowKey) → row_in t k ≡ row_due changed (before ++ added) k
  row_same none k = stand.same k ∙ sym (go (same_key keys.Mark k) refl)
    where
      go : (b : Bool) → same_key keys.Mark k ≡ b → row_due changed (before ++ added) k ≡ row_due changed before k
      go true e = subst (λ x. row_due changed (before ++ added) x ≡ row_due changed before x) (same_exact keys.Mark k e) (ap (option_map rows.Mark) (mark_kept changed before added (none_kept none)))
      go false e = due_same changed changed before added k e (none_any is_kept_or_opening (concerns before k) (untouched before k) added (none_kept none))

  unstored_stands : has_stored added ≡ false → StandFor (applied (batch_of moment before added) t) (stored_moment changed moment added) (before ++ added)
  unstored_stands none = rw (no_batch moment before added none, none) (record { ordered = stand.ordered; same = row_same none })

  pub stands_on : StandFor (applied (batch_of moment before added) t) (stored_moment changed moment added) (before ++ added)
  stands_on = go (has_stored added) refl
    where
      go : (b : Bool) → has_stored added ≡ b → StandFor (applied (batch_of moment before added) t) (stored_moment changed moment added) (before ++ added)
      go true e = stored_stands e
      go false e = unstored_stands e

-- ---- when it is empty

or_true : (b : Bool) → (b || true) ≡ true
or_true true = refl
or_true false = refl

not_empty : {A : Type 0} (p : A → Bool) (xs : List A) → list_any p xs ≡ true → (length xs == 0) ≡ false
not_empty p [] h = absurd (false≢true h)
not_empty p (x ∷ xs) h = grind (arith, nat_tests)

pub empty_where : (moment : ℕ) (before added : List Fact) → (length (batch_of moment before added) == 0) ≡ not (has_stored added)
empty_where moment before added = go (has_stored added) refl
  where
    go : (b : Bool) → has_stored added ≡ b → (length (batch_of moment before added) == 0) ≡ not (has_stored added)
    go true e =
        let all : List RowKey = touched before added ++ keys.Mark ∷ [] in
        let facts : List Fact = before ++ added in
        let reached = changes_reach (row_due moment facts) (due_own moment facts) keys.Mark all
        ∙ list_any-append (λ x. same_key x keys.Mark) (touched before added) (keys.Mark ∷ []) ∙ or_true (is_among keys.Mark (touched before added)) in
        rw (some_batch moment before added e, e) (not_empty (reaches keys.Mark) (changes_to (row_due moment facts) all) reached)
    go false e = rw (no_batch moment before added e, e) refl
