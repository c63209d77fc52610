-- Arrays that are made value by value.
use Rattle.std.proofs.Common.{◌≡◌, ℕ, ◌+◌, ◌≤◌, true, List, [], ◌∷◌, ◌++◌, length, Ok, Err, refl, ap, arith}
use Rattle.std.proofs.lemmas.Bool.{and_parts}
use Rattle.toml.specs.Data.{Data, array, Items, no_items, item, push_item, depth, items_depth, has_valid_dates, items_have_valid_dates}
use Rattle.toml.specs.View.{view, items_view}
use Rattle.toml.specs.declared.value.Value.{Value}
use Rattle.toml.proofs.Views.{items_view-push}
use Rattle.realm_fields.specs.Paths.{item_path}
use Rattle.realm_fields.specs.Reading.{Read, Reader, ◌>>=◌, items_from, item_count, list_in}
use Rattle.realm_fields.proofs.RangeLemmas.{ok_is}
use Rattle.realm_print.specs.Printed.{IsReadAs, AreFewAs, IsPlain}

-- wherever the items stand, they are read as these
abbrev pub AreReadAs : {A : Type 0} → Reader A → Items → List A → Type 0
AreReadAs read ds xs = (path : List ℕ) → items_from read path 0 ds ≡ Ok xs

pub none_read : {A : Type 0} (read : Reader A) → AreReadAs read no_items []
unfolding items_from
none_read read = λ path. refl

behind_first : {A : Type 0} (first : Read A) (before after : Read (List A)) (xs : List A) (x : A) → ((ys : List A) → before ≡ Ok ys → after ≡ Ok (ys ++ x ∷ []))
    → (first >>= λ y. before >>= λ ys. Ok (y ∷ ys)) ≡ Ok xs → (first >>= λ y. after >>= λ ys. Ok (y ∷ ys)) ≡ Ok (xs ++ x ∷ [])
behind_first (Ok y) (Ok ys) after xs x more h = rw (more ys refl) (ap (λ zs. Ok (zs ++ x ∷ [])) (ok_is (y ∷ ys) xs h))
behind_first (Ok y) (Err fault) after xs x more h = absurd cc
behind_first (Err fault) before after xs x more h = absurd cc

-- one item more at the end
push_from : {A : Type 0} (read : Reader A) (path : List ℕ) (i : ℕ) (ds : Items) (d : Data) (xs : List A) (x : A)
    → items_from read path i ds ≡ Ok xs → ((p : List ℕ) → read p d ≡ Ok x) → items_from read path i (push_item ds d) ≡ Ok (xs ++ x ∷ [])
unfolding items_from
push_from read path i no_items d xs x before back = rw (back (item_path path i)) (ap (λ zs. Ok (zs ++ x ∷ [])) (ok_is [] xs before))
push_from read path i (item e ds) d xs x before back =
    behind_first (read (item_path path i) e) (items_from read path (i + 1) ds) (items_from read path (i + 1) (push_item ds d)) xs x
    (λ ys h. push_from read path (i + 1) ds d ys x h back) before

pub push_back : {A : Type 0} (read : Reader A) (vs : List Value) (v : Value) (xs : List A) (x : A) → AreReadAs read (items_view vs) xs
    → IsReadAs read (view v) x → AreReadAs read (items_view (vs ++ v ∷ [])) (xs ++ x ∷ [])
push_back read vs v xs x before back = λ path. rw (items_view-push vs v) (push_from read path 0 (items_view vs) (view v) xs x (before path) back)

counted_first : {A : Type 0} (first : Read A) (rest : Read (List A)) (xs : List A) (n : ℕ) → ((ys : List A) → rest ≡ Ok ys → n ≡ length ys)
    → (first >>= λ y. rest >>= λ ys. Ok (y ∷ ys)) ≡ Ok xs → n + 1 ≡ length xs
counted_first (Ok y) (Ok ys) xs n more h = let same = more ys refl in omega (arith, ap length (ok_is (y ∷ ys) xs h))
counted_first (Ok y) (Err fault) xs n more h = absurd cc
counted_first (Err fault) rest xs n more h = absurd cc

-- as many items are read as there are
count_from : {A : Type 0} (read : Reader A) (path : List ℕ) (i : ℕ) (ds : Items) (xs : List A) → items_from read path i ds ≡ Ok xs
    → item_count ds ≡ length xs
unfolding items_from item_count
count_from read path i no_items xs h = ap length (ok_is [] xs h)
count_from read path i (item d ds) xs h =
    counted_first (read (item_path path i) d) (items_from read path (i + 1) ds) xs (item_count ds) (λ ys k. count_from read path (i + 1) ds ys k) h

pub few_back : {A : Type 0} (read : Reader A) (ds : Items) (xs : List A) → AreReadAs read ds xs → AreFewAs read (array ds) xs
few_back read ds xs back = λ least most few path. rw (count_from read path 0 ds xs (back path), few) (back path)

pub list_back : {A : Type 0} (read : Reader A) (ds : Items) (xs : List A) → AreReadAs read ds xs → IsReadAs (list_in read) (array ds) xs
list_back read ds xs back = λ path. back path

-- ---- how deep they nest, and their dates

pub record AreItemsPlain (most : ℕ) (ds : Items) : Type 0 where
  pub deep : items_depth ds ≤ most
  pub dates : items_have_valid_dates ds ≡ true

deep_last : (ds : Items) (d : Data) (most : ℕ) → items_depth ds ≤ most → depth d ≤ most → items_depth (push_item ds d) ≤ most
deep_last no_items d most before here = omega arith
deep_last (item e ds) d most before here = let rest = deep_last ds d most (omega arith) here in omega arith

dates_last : (ds : Items) (d : Data) → items_have_valid_dates ds ≡ true → has_valid_dates d ≡ true → items_have_valid_dates (push_item ds d) ≡ true
dates_last no_items d before here = rw here
dates_last (item e ds) d before here =
    let parts = and_parts (has_valid_dates e) (items_have_valid_dates ds) before in
    rw (parts.0, dates_last ds d parts.1 here) refl

pub no_plain : (most : ℕ) → AreItemsPlain most no_items
no_plain most = record { deep = omega arith; dates = refl }

pub plain_last : (vs : List Value) (v : Value) (most : ℕ) → AreItemsPlain most (items_view vs) → IsPlain most (view v)
    → AreItemsPlain most (items_view (vs ++ v ∷ []))
plain_last vs v most before here =
    rw (items_view-push vs v) (record {
      deep = deep_last (items_view vs) (view v) most before.deep here.deep;
      dates = dates_last (items_view vs) (view v) before.dates here.dates;
    })

pub plain_array : (most : ℕ) (ds : Items) → AreItemsPlain most ds → IsPlain (most + 1) (array ds)
plain_array most ds h = record { deep = (let low = h.deep in omega arith); dates = h.dates }
