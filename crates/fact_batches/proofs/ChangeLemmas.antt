-- What one change, and several, do to the row at a key.
use Rattle.std.proofs.Common.{◌≡◌, ℕ, Bool, true, false, ◌||◌, ◌==◌, cond, List, [], ◌∷◌, ◌++◌, refl, sym, ap, ◌∙◌, arith}
use Rattle.std.specs.Prelude.{Option, Some, None, option_map}
use Rattle.std.specs.List.{list_any, AllByRecursion, flat_map}
use Rattle.std.specs.Ordering.{is_eq, nat_cmp}
use Rattle.std.proofs.lemmas.Bool.{false≢true}
use Rattle.std.proofs.lemmas.Bool.Decides.{nat_tests, Decides-int_eq}
use Rattle.std.proofs.lemmas.Cmp.{nat_cmp_total, int_cmp_total, nat_list_cmp_total}
use Rattle.std.proofs.lemmas.List.Folds.{list_any-append}
use Rattle.std.proofs.lemmas.Map.Lookups.{exact_bytes, exact_signed, exact_unsigned}
use Rattle.std.proofs.lemmas.Map.Text.{is_eq-slice_cmp}
use Rattle.std.proofs.lemmas.Slice.Eq.{bytes_eq-Decides}
use Rattle.keeper_rows.specs.declared.change.Row.{Row}
use Rattle.keeper_rows.specs.declared.change.Row.TheVariants as rows
use Rattle.keeper_rows.specs.declared.change.RowKey.{RowKey}
use Rattle.keeper_rows.specs.declared.change.RowKey.TheVariants as keys
use Rattle.keeper_rows.specs.declared.change.Change.{Change}
use Rattle.keeper_rows.specs.declared.change.Change.TheVariants as changes
use Rattle.keeper_rows.specs.declared.tables.Tables.{Tables}
use Rattle.keeper_rows.specs.Applied.{realm_key, account_key, secret_key, session_key, token_key, mark_key, put_row, drop_row, changed, applied}
use Rattle.fact_rows.specs.Due.{realm_of_row}
use Rattle.fact_rows.specs.StandFor.{row_in, row_of, IsOrdered}
use Rattle.fact_batches.specs.Batch.{drop_of, put_of, changes_to}
use Rattle.fact_batches.specs.Touched.{same_key}
use Rattle.fact_batches.proofs.TableLemmas.{found_put, found_drop, ascending_put, ascending_drop}

-- ---- keys

abbrev pub key_of : Row → RowKey
key_of (rows.Realm version realm) = keys.Realm version
key_of (rows.Account row) = keys.Account row.id
key_of (rows.Secret row) = keys.Secret row.serial
key_of (rows.Session row) = keys.Session row.id
key_of (rows.Token row) = keys.Token row.key
key_of (rows.Mark row) = keys.Mark

pub equal_numbers : (a b : ℕ) → (a == b) ≡ true → a ≡ b
equal_numbers a b h = grind (arith, nat_tests)

pub same_exact : (a b : RowKey) → same_key a b ≡ true → a ≡ b
same_exact (keys.Realm a) (keys.Realm b) h = ap keys.Realm (equal_numbers a b h)
same_exact (keys.Account a) (keys.Account b) h = ap keys.Account ((Decides-int_eq a b).0 h)
same_exact (keys.Secret a) (keys.Secret b) h = ap keys.Secret ((Decides-int_eq a b).0 h)
same_exact (keys.Session a) (keys.Session b) h = ap keys.Session ((bytes_eq-Decides a b).0 h)
same_exact (keys.Token a) (keys.Token b) h = ap keys.Token ((bytes_eq-Decides a b).0 h)
same_exact keys.Mark keys.Mark h = refl
same_exact a b h = absurd (false≢true h)

same_nat : (a b : ℕ) → is_eq (nat_cmp a b) ≡ (a == b)
same_nat a b = grind (arith, nat_tests)

-- ---- one change

mapped_put : {R : Type 0} (f : R → Row) (b : Bool) (row : R) (found : Option R) → option_map f (cond b (Some row) found) ≡ cond b (Some (f row)) (option_map f found)
mapped_put f true row found = refl
mapped_put f false row found = refl

mapped_drop : {R : Type 0} (f : R → Row) (b : Bool) (found : Option R) → option_map f (cond b None found) ≡ cond b None (option_map f found)
mapped_drop f true found = refl
mapped_drop f false found = refl

pub row_put : (row : Row) (t : Tables) (k : RowKey) → IsOrdered t → row_in (put_row row t) k ≡ cond (same_key (key_of row) k) (Some row) (row_in t k)
unfolding put_row
row_put (rows.Realm version realm) t (keys.Realm k) up =
    ap (option_map realm_of_row) (found_put nat_cmp_total exact_unsigned realm_key (record { version = version; realm = realm }) t.realms k up.realms)
    ∙ mapped_put realm_of_row _ (record { version = version; realm = realm }) _
    ∙ ap (λ b. cond b (Some (rows.Realm version realm)) (row_in t (keys.Realm k))) (same_nat version k)
row_put (rows.Account row) t (keys.Account k) up =
    ap (option_map rows.Account) (found_put int_cmp_total exact_signed account_key row t.accounts k up.accounts) ∙ mapped_put rows.Account _ row _
row_put (rows.Secret row) t (keys.Secret k) up =
    ap (option_map rows.Secret) (found_put int_cmp_total exact_signed secret_key row t.secrets k up.secrets) ∙ mapped_put rows.Secret _ row _
row_put (rows.Session row) t (keys.Session k) up =
    ap (option_map rows.Session) (found_put nat_list_cmp_total exact_bytes session_key row t.sessions k up.sessions)
    ∙ mapped_put rows.Session _ row _ ∙ ap (λ b. cond b (Some (rows.Session row)) (row_in t (keys.Session k))) (is_eq-slice_cmp row.id k)
row_put (rows.Token row) t (keys.Token k) up =
    ap (option_map rows.Token) (found_put nat_list_cmp_total exact_bytes token_key row t.tokens k up.tokens)
    ∙ mapped_put rows.Token _ row _ ∙ ap (λ b. cond b (Some (rows.Token row)) (row_in t (keys.Token k))) (is_eq-slice_cmp row.key k)
row_put (rows.Mark row) t keys.Mark up =
    ap (option_map rows.Mark) (found_put nat_cmp_total exact_unsigned mark_key row t.marks 1 up.marks) ∙ mapped_put rows.Mark (is_eq (nat_cmp (mark_key row) 1)) row (row_of nat_cmp mark_key t.marks 1)
row_put row t k up = refl

pub row_drop : (gone : RowKey) (t : Tables) (k : RowKey) → IsOrdered t → row_in (drop_row gone t) k ≡ cond (same_key gone k) None (row_in t k)
unfolding drop_row
row_drop (keys.Realm version) t (keys.Realm k) up =
    ap (option_map realm_of_row) (found_drop nat_cmp_total exact_unsigned realm_key version t.realms k up.realms)
    ∙ mapped_drop realm_of_row _ _ ∙ ap (λ b. cond b None (row_in t (keys.Realm k))) (same_nat version k)
row_drop (keys.Account id) t (keys.Account k) up =
    ap (option_map rows.Account) (found_drop int_cmp_total exact_signed account_key id t.accounts k up.accounts) ∙ mapped_drop rows.Account _ _
row_drop (keys.Secret serial) t (keys.Secret k) up =
    ap (option_map rows.Secret) (found_drop int_cmp_total exact_signed secret_key serial t.secrets k up.secrets) ∙ mapped_drop rows.Secret _ _
row_drop (keys.Session id) t (keys.Session k) up =
    ap (option_map rows.Session) (found_drop nat_list_cmp_total exact_bytes session_key id t.sessions k up.sessions)
    ∙ mapped_drop rows.Session _ _ ∙ ap (λ b. cond b None (row_in t (keys.Session k))) (is_eq-slice_cmp id k)
row_drop (keys.Token key) t (keys.Token k) up =
    ap (option_map rows.Token) (found_drop nat_list_cmp_total exact_bytes token_key key t.tokens k up.tokens)
    ∙ mapped_drop rows.Token _ _ ∙ ap (λ b. cond b None (row_in t (keys.Token k))) (is_eq-slice_cmp key k)
row_drop keys.Mark t keys.Mark up =
    ap (option_map rows.Mark) (found_drop nat_cmp_total exact_unsigned mark_key 1 t.marks 1 up.marks) ∙ mapped_drop rows.Mark (is_eq (nat_cmp 1 1)) (row_of nat_cmp mark_key t.marks 1)
row_drop gone t k up = refl

ordered_put : (row : Row) (t : Tables) → IsOrdered t → IsOrdered (put_row row t)
unfolding put_row
ordered_put (rows.Realm version realm) t up =
    record { realms = ascending_put nat_cmp_total exact_unsigned realm_key (record { version = version; realm = realm }) t.realms up.realms; accounts = up.accounts; secrets = up.secrets; sessions = up.sessions; tokens = up.tokens; marks = up.marks }
ordered_put (rows.Account row) t up = record { realms = up.realms; accounts = ascending_put int_cmp_total exact_signed account_key row t.accounts up.accounts; secrets = up.secrets; sessions = up.sessions; tokens = up.tokens; marks = up.marks }
ordered_put (rows.Secret row) t up = record { realms = up.realms; accounts = up.accounts; secrets = ascending_put int_cmp_total exact_signed secret_key row t.secrets up.secrets; sessions = up.sessions; tokens = up.tokens; marks = up.marks }
ordered_put (rows.Session row) t up = record { realms = up.realms; accounts = up.accounts; secrets = up.secrets; sessions = ascending_put nat_list_cmp_total exact_bytes session_key row t.sessions up.sessions; tokens = up.tokens; marks = up.marks }
ordered_put (rows.Token row) t up = record { realms = up.realms; accounts = up.accounts; secrets = up.secrets; sessions = up.sessions; tokens = ascending_put nat_list_cmp_total exact_bytes token_key row t.tokens up.tokens; marks = up.marks }
ordered_put (rows.Mark row) t up = record { realms = up.realms; accounts = up.accounts; secrets = up.secrets; sessions = up.sessions; tokens = up.tokens; marks = ascending_put nat_cmp_total exact_unsigned mark_key row t.marks up.marks }

ordered_drop : (gone : RowKey) (t : Tables) → IsOrdered t → IsOrdered (drop_row gone t)
unfolding drop_row
ordered_drop (keys.Realm version) t up = record { realms = ascending_drop nat_cmp_total exact_unsigned realm_key version t.realms up.realms; accounts = up.accounts; secrets = up.secrets; sessions = up.sessions; tokens = up.tokens; marks = up.marks }
ordered_drop (keys.Account id) t up = record { realms = up.realms; accounts = ascending_drop int_cmp_total exact_signed account_key id t.accounts up.accounts; secrets = up.secrets; sessions = up.sessions; tokens = up.tokens; marks = up.marks }
ordered_drop (keys.Secret serial) t up = record { realms = up.realms; accounts = up.accounts; secrets = ascending_drop int_cmp_total exact_signed secret_key serial t.secrets up.secrets; sessions = up.sessions; tokens = up.tokens; marks = up.marks }
ordered_drop (keys.Session id) t up = record { realms = up.realms; accounts = up.accounts; secrets = up.secrets; sessions = ascending_drop nat_list_cmp_total exact_bytes session_key id t.sessions up.sessions; tokens = up.tokens; marks = up.marks }
ordered_drop (keys.Token key) t up = record { realms = up.realms; accounts = up.accounts; secrets = up.secrets; sessions = up.sessions; tokens = ascending_drop nat_list_cmp_total exact_bytes token_key key t.tokens up.tokens; marks = up.marks }
ordered_drop keys.Mark t up = record { realms = up.realms; accounts = up.accounts; secrets = up.secrets; sessions = up.sessions; tokens = up.tokens; marks = ascending_drop nat_cmp_total exact_unsigned mark_key 1 t.marks up.marks }

ordered_changed : (t : Tables) (c : Change) → IsOrdered t → IsOrdered (changed t c)
ordered_changed t (changes.Put row) up = ordered_put row t up
ordered_changed t (changes.Drop key) up = ordered_drop key t up

pub ordered_applied : (cs : List Change) (t : Tables) → IsOrdered t → IsOrdered (applied cs t)
ordered_applied [] t up = up
ordered_applied (c ∷ cs) t up = ordered_applied cs (changed t c) (ordered_changed t c up)

-- ---- changes to what is due

abbrev pub changed_key : Change → RowKey
changed_key (changes.Put row) = key_of row
changed_key (changes.Drop key) = key

abbrev pub reaches : RowKey → Change → Bool
reaches k c = same_key (changed_key c) k

module _ (due : RowKey → Option Row) where
  -- it makes of its row what is due
  abbrev pub IsRight : Change → Type 0
  IsRight (changes.Put row) = due (key_of row) ≡ Some row
  IsRight (changes.Drop key) = due key ≡ None

  right_at : (c : Change) (t : Tables) (k : RowKey) → IsRight c → IsOrdered t → row_in (changed t c) k ≡ cond (reaches k c) (due k) (row_in t k)
  right_at (changes.Put row) t k right up = row_put row t k up ∙ go (same_key (key_of row) k) refl
    where
      go : (b : Bool) → same_key (key_of row) k ≡ b → cond b (Some row) (row_in t k) ≡ cond b (due k) (row_in t k)
      go true same = sym right ∙ ap due (same_exact (key_of row) k same)
      go false same = refl
  right_at (changes.Drop key) t k right up = row_drop key t k up ∙ go (same_key key k) refl
    where
      go : (b : Bool) → same_key key k ≡ b → cond b None (row_in t k) ≡ cond b (due k) (row_in t k)
      go true same = sym right ∙ ap due (same_exact key k same)
      go false same = refl

  either : (a b : Bool) (x y : Option Row) → cond a x (cond b x y) ≡ cond (b || a) x y
  either true true x y = refl
  either true false x y = refl
  either false true x y = refl
  either false false x y = refl

  pub all_right : (cs : List Change) (t : Tables) (k : RowKey) → AllByRecursion IsRight cs → IsOrdered t → row_in (applied cs t) k ≡ cond (list_any (reaches k) cs) (due k) (row_in t k)
  all_right [] t k right up = refl
  all_right (c ∷ cs) t k right up =
      all_right cs (changed t c) k right.1 (ordered_changed t c up)
      ∙ ap (λ found. cond (list_any (reaches k) cs) (due k) found) (right_at c t k right.0 up)
      ∙ either (list_any (reaches k) cs) (reaches k c) (due k) (row_in t k)

  -- a row that is due at a key has this key
  abbrev pub Own : Type 0
  Own = (key : RowKey) (row : Row) → due key ≡ Some row → key_of row ≡ key

  both_right : (cs ds : List Change) → AllByRecursion IsRight cs → AllByRecursion IsRight ds → AllByRecursion IsRight (cs ++ ds)
  both_right [] ds all more = more
  both_right (c ∷ cs) ds all more = (all.0, both_right cs ds all.1 more)

  more_drops : (key : RowKey) (rest : List Change) (o : Option Row) → due key ≡ o → AllByRecursion IsRight rest → AllByRecursion IsRight (drop_of key o ++ rest)
  more_drops key rest None e all = (e, all)
  more_drops key rest (Some row) e all = all

  drops_right : (ks : List RowKey) → AllByRecursion IsRight (flat_map (λ key. drop_of key (due key)) ks)
  drops_right [] = tt
  drops_right (key ∷ ks) = more_drops key _ (due key) refl (drops_right ks)

  more_puts : Own → (key : RowKey) (rest : List Change) (o : Option Row) → due key ≡ o → AllByRecursion IsRight rest → AllByRecursion IsRight (put_of o ++ rest)
  more_puts own key rest None e all = all
  more_puts own key rest (Some row) e all = (ap due (own key row e) ∙ e, all)

  puts_right : Own → (ks : List RowKey) → AllByRecursion IsRight (flat_map (λ key. put_of (due key)) ks)
  puts_right own [] = tt
  puts_right own (key ∷ ks) = more_puts own key _ (due key) refl (puts_right own ks)

  pub changes_right : Own → (ks : List RowKey) → AllByRecursion IsRight (changes_to due ks)
  changes_right own ks = both_right _ _ (drops_right ks) (puts_right own ks)

  moved : (a b c : Bool) → (a || (b || c)) ≡ (b || (a || c))
  moved true true c = refl
  moved true false c = refl
  moved false b c = refl

  grouped : (a b c : Bool) → ((a || b) || c) ≡ (a || (b || c))
  grouped true b c = refl
  grouped false b c = refl

  more_reach : Own → (k key : RowKey) (drops puts : List Change) (rest : Bool) (o : Option Row) → due key ≡ o → (list_any (reaches k) drops || list_any (reaches k) puts) ≡ rest
      → (list_any (reaches k) (drop_of key o ++ drops) || list_any (reaches k) (put_of o ++ puts)) ≡ (same_key key k || rest)
  more_reach own k key drops puts rest None e later = grouped (same_key key k) _ _ ∙ ap (λ b. same_key key k || b) later
  more_reach own k key drops puts rest (Some row) e later =
      moved _ (same_key (key_of row) k) _ ∙ ap (λ b. same_key (key_of row) k || b) later ∙ ap (λ (x : RowKey). same_key x k || rest) (own key row e)

  each_reach : Own → (k : RowKey) (ks : List RowKey)
      → (list_any (reaches k) (flat_map (λ key. drop_of key (due key)) ks) || list_any (reaches k) (flat_map (λ key. put_of (due key)) ks)) ≡ list_any (λ key. same_key key k) ks
  each_reach own k [] = refl
  each_reach own k (key ∷ ks) = more_reach own k key _ _ (list_any (λ key. same_key key k) ks) (due key) refl (each_reach own k ks)

  pub changes_reach : Own → (k : RowKey) (ks : List RowKey) → list_any (reaches k) (changes_to due ks) ≡ list_any (λ key. same_key key k) ks
  changes_reach own k ks = list_any-append (reaches k) _ _ ∙ each_reach own k ks
