-- Names are apart where each in turn is new to the set of those before it.
use Rattle.std.proofs.Common.{◌≡◌, ℕ, Bool, true, false, not, ◌&&◌, ◌||◌, cond, List, [], ◌∷◌, length, drop, get_or, ◌+◌, ◌<◌, ◌≤◌, Bor, refl, ap, sym, ◌∙◌, Ordering}
use Rattle.std.specs.BTreeSet.{BTreeSet, Updates}
use Rattle.std.specs.Cmp.Lexicographic.{slice_cmp}
use Rattle.std.specs.List.{list_all, list_any}
use Rattle.std.specs.Ordering.{nat_cmp, is_eq}
use Rattle.std.specs.Str.{bytes_eq}
use Rattle.std.proofs.Math.ListN.{drop_of_length-le}
use Rattle.std.proofs.lemmas.List.{drop_more}
use Rattle.std.proofs.lemmas.Map.Text.{is_eq-slice_cmp}
use Rattle.realm_data.specs.Realm.{are_apart}

-- whether the name is a key
abbrev pub has : List (Bor (List ℕ)) → List ℕ → Bool
has keys name = list_any (λ key. is_eq (slice_cmp nat_cmp name key.now)) keys

-- no item's name is a key, and no two have one name
abbrev pub are_new : {A : Type 0} → List (Bor (List ℕ)) → (A → List ℕ) → List A → Bool
are_new keys name items = list_all (λ item. not (has keys (name item))) items && are_apart name items

-- ---- before the first item and after the last

all_pass : {A : Type 0} (items : List A) → list_all (λ (item : A). true) items ≡ true
all_pass [] = refl
all_pass (item ∷ items) = all_pass items

pub begun : {A : Type 0} (keys : List (Bor (List ℕ))) → keys ≡ [] → (name : A → List ℕ) (items : List A) → are_apart name items ≡ are_new keys name items
begun keys none name items = rw (none, all_pass items) refl

pub over : {A : Type 0} (keys : List (Bor (List ℕ))) (name : A → List ℕ) (items : List A) (i : ℕ) → length items ≤ i → are_new keys name (drop i items) ≡ true
unfolding are_apart
over keys name items i le = rw (drop_of_length-le items le) refl

-- ---- a key more

abbrev compared : Bor (List ℕ) → Bor (List ℕ) → Ordering
compared a b = slice_cmp nat_cmp a.now b.now

has_more : (old new : BTreeSet (Bor (List ℕ))) (key : Bor (List ℕ)) → Updates compared old new key true → (name : List ℕ) → has new.keys name ≡ (bytes_eq key.now name || has old.keys name)
has_more old new key h name =
    h.0 (record { ref_ptr = key.ref_ptr; now = name }) ∙ rw is_eq-slice_cmp (either (bytes_eq key.now name) (has old.keys name))
  where
    either : (a b : Bool) → cond a true b ≡ (a || b)
    either true b = refl
    either false b = refl

more : {A : Type 0} (old new : List ℕ → Bool) (one : List ℕ) → ((q : List ℕ) → new q ≡ (bytes_eq one q || old q)) → (name : A → List ℕ) (items : List A) → list_all (λ item. not (new (name item))) items ≡ (list_all (λ item. not (old (name item))) items && not (list_any (λ item. bytes_eq one (name item)) items))
more old new one h name [] = refl
more old new one h name (item ∷ items) =
    rw (h (name item), more old new one h name items) (shuffled (bytes_eq one (name item)) (old (name item)) (list_all (λ item. not (old (name item))) items) (list_any (λ item. bytes_eq one (name item)) items))
  where
    shuffled : (same taken rest any : Bool) → (not (same || taken) && (rest && not any)) ≡ ((not taken && rest) && not (same || any))
    shuffled true true rest any = refl
    shuffled true false true any = refl
    shuffled true false false any = refl
    shuffled false true rest any = refl
    shuffled false false rest any = refl

-- ---- an item more

first : {A : Type 0} (keys : List (Bor (List ℕ))) (name : A → List ℕ) (items : List A) (i : ℕ) (item : A) → i < length items → item ≡ get_or items i item → are_new keys name (drop i items) ≡ are_new keys name (item ∷ drop (i + 1) items)
first keys name items i item lt at = ap (are_new keys name) (drop_more items i item lt ∙ ap (λ x. x ∷ drop (i + 1) items) (sym at))

pub taken : {A : Type 0} (keys : List (Bor (List ℕ))) (key : Bor (List ℕ)) → not (has keys key.now) ≡ false → (name : A → List ℕ) (items : List A) (i : ℕ) (item : A) → i < length items → item ≡ get_or items i item → key.now ≡ name item → are_new keys name (drop i items) ≡ false
taken keys key h name items i item lt at named = first keys name items i item lt at ∙ rw (← named, h) refl

pub added : {A : Type 0} (old new : BTreeSet (Bor (List ℕ))) (key : Bor (List ℕ)) → Updates compared old new key true → not (has old.keys key.now) ≡ true → (name : A → List ℕ) (items : List A) (i : ℕ) (item : A) → i < length items → item ≡ get_or items i item → key.now ≡ name item → are_new old.keys name (drop i items) ≡ are_new new.keys name (drop (i + 1) items)
unfolding are_apart
added old new key updates h name items i item lt at named =
    let others = drop (i + 1) items in
    let grown = more (has old.keys) (has new.keys) key.now (has_more old new key updates) name others in
    first old.keys name items i item lt at ∙ rw (← named, h, grown)
    (grouped (list_all (λ other. not (has old.keys (name other))) others) (not (list_any (λ other. bytes_eq key.now (name other)) others)) (are_apart name others))
  where
    grouped : (a b c : Bool) → (a && (b && c)) ≡ ((a && b) && c)
    grouped true b c = refl
    grouped false b c = refl
