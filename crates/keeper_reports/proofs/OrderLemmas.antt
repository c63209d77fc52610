-- What a stable sort makes of rows is the rows in order.
use Rattle.std.proofs.Common.{◌≡◌, suc, ◌+◌, Bool, true, false, not, ◌&&◌, cond, List, [], ◌∷◌, map, get_or, Ordering, Bor, refl, sym, ap, subst, ◌∙◌, arith}
use Rattle.std.specs.Cmp.{IsTotalOrder, IsStrictWeakOrder}
use Rattle.std.specs.Fn.{Mut, Called, ComparesAs, ComputesKey}
use Rattle.std.specs.Ordering.{is_lt}
use Rattle.std.specs.List.{filter, list_all}
use Rattle.std.specs.List.Sorted.{IsSortedBy, IsStableBy, IsSortedByKey, IsStableByKey, ties}
use Rattle.std.proofs.lemmas.Bool.{and_parts, false≢true}
use Rattle.std.proofs.lemmas.Fn.{always_returns_same}
use Rattle.std.proofs.lemmas.List.Sorted.{ranks_by, sorted_far}
use Rattle.std.proofs.lemmas.List.Sums.{list_all-from_AllPass}
use Rattle.keeper_rows.specs.Keys.{insert_before}
use Rattle.keeper_reports.specs.Order.{in_order}

-- ---- tests

negated : (b : Bool) → not b ≡ true → b ≡ false
negated true h = absurd (false≢true h)
negated false h = refl

affirmed : (b : Bool) → not b ≡ false → b ≡ true
affirmed true h = refl
affirmed false h = absurd (false≢true (sym h))

both : (a b : Bool) → a ≡ true → b ≡ true → (a && b) ≡ true
both true b p q = q
both false b p q = absurd (false≢true p)

flipped : (a b : Bool) → (a && b) ≡ false → (b && a) ≡ false
flipped true true h = h
flipped true false h = refl
flipped false true h = refl
flipped false false h = refl

list_all-weaker : {X : Type 0} (p q : X → Bool) → ((x : X) → p x ≡ true → q x ≡ true) → (xs : List X) → list_all p xs ≡ true → list_all q xs ≡ true
list_all-weaker p q weaker [] all = refl
list_all-weaker p q weaker (x ∷ xs) all =
    let parts = and_parts (p x) (list_all p xs) all in
    both (q x) (list_all q xs) (weaker x parts.0) (list_all-weaker p q weaker xs parts.1)

-- ---- filters

kept : {X : Type 0} (p : X → Bool) (x : X) (xs : List X) → p x ≡ true → filter p (x ∷ xs) ≡ x ∷ filter p xs
kept p x xs is = rw is refl

left_out : {X : Type 0} (p : X → Bool) (x : X) (xs : List X) → p x ≡ false → filter p (x ∷ xs) ≡ filter p xs
left_out p x xs is = rw is refl

abbrev head_or : {X : Type 0} → X → List X → X
head_or d [] = d
head_or d (x ∷ xs) = x

abbrev rest_of : {X : Type 0} → List X → List X
rest_of [] = []
rest_of (x ∷ xs) = xs

same_rest : {X : Type 0} (p : X → Bool) (x y : X) (xs ys : List X) → x ≡ y → filter p (x ∷ xs) ≡ filter p (y ∷ ys) → filter p xs ≡ filter p ys
same_rest {X} p x y xs ys e same = go (p x) refl (ap p (sym e))
  where
    go : (b : Bool) → p x ≡ b → p y ≡ p x → filter p xs ≡ filter p ys
    go true is too = ap rest_of (sym (kept p x xs is) ∙ same ∙ kept p y ys (too ∙ is))
    go false is too = sym (left_out p x xs is) ∙ same ∙ left_out p y ys (too ∙ is)

-- the first item that a filter keeps passes what all items pass
first_kept : {X : Type 0} (p q : X → Bool) (ys rest : List X) (x : X) → filter p ys ≡ x ∷ rest → list_all q ys ≡ true → q x ≡ true
first_kept p q [] rest x is all = absurd cc
first_kept {X} p q (y ∷ ys) rest x is all = go (p y) refl (first_kept p q ys rest x)
  where
    go : (b : Bool) → p y ≡ b → (filter p ys ≡ x ∷ rest → list_all q ys ≡ true → q x ≡ true) → q x ≡ true
    go true is_b later = ap q (ap (head_or x) (sym is ∙ kept p y ys is_b)) ∙ (and_parts (q y) (list_all q ys) all).0
    go false is_b later = later (sym (left_out p y ys is_b) ∙ is) (and_parts (q y) (list_all q ys) all).1

-- ---- lists in order

-- no item is less than an earlier one
abbrev ascends : {X : Type 0} → (X → X → Bool) → List X → Bool
ascends lt [] = true
ascends lt (x ∷ xs) = list_all (λ y. not (lt y x)) xs && ascends lt xs

never_itself : {X : Type 0} {lt : X → X → Bool} → IsStrictWeakOrder lt → (x : X) → lt x x ≡ false
never_itself {X} {lt} o x = go (lt x x) refl
  where
    go : (b : Bool) → lt x x ≡ b → lt x x ≡ false
    go true is = o.one_way x x is
    go false is = is

ties_itself : {X : Type 0} {lt : X → X → Bool} → IsStrictWeakOrder lt → (x : X) → ties lt x x ≡ true
ties_itself o x = rw (never_itself o x) refl

-- two lists in order in which the same items tie with each item are the same
same_in_order : {X : Type 0} (lt : X → X → Bool) → IsStrictWeakOrder lt → (xs ys : List X) → ascends lt xs ≡ true → ascends lt ys ≡ true
    → ((z : X) → filter (ties lt z) xs ≡ filter (ties lt z) ys) → xs ≡ ys
same_in_order lt o [] [] up_x up_y same = refl
same_in_order lt o [] (y ∷ ys) up_x up_y same = absurd (let e : [] ≡ y ∷ filter (ties lt y) ys = same y ∙ kept (ties lt y) y ys (ties_itself o y) in cc)
same_in_order lt o (x ∷ xs) [] up_x up_y same = absurd (let e : x ∷ filter (ties lt x) xs ≡ [] = sym (kept (ties lt x) x xs (ties_itself o x)) ∙ same x in cc)
same_in_order {X} lt o (x ∷ xs) (y ∷ ys) up_x up_y same = go (ties lt x y) refl (same_in_order lt o xs ys)
  where
    x_up : (list_all (λ z. not (lt z x)) xs ≡ true) × (ascends lt xs ≡ true)
    x_up = and_parts (list_all (λ z. not (lt z x)) xs) (ascends lt xs) up_x

    y_up : (list_all (λ z. not (lt z y)) ys ≡ true) × (ascends lt ys ≡ true)
    y_up = and_parts (list_all (λ z. not (lt z y)) ys) (ascends lt ys) up_y

    go : (b : Bool) → ties lt x y ≡ b → (ascends lt xs ≡ true → ascends lt ys ≡ true → ((z : X) → filter (ties lt z) xs ≡ filter (ties lt z) ys) → xs ≡ ys) → x ∷ xs ≡ y ∷ ys
    go true is again =
        let e : x ≡ y = ap (head_or x) (sym (kept (ties lt x) x xs (ties_itself o x)) ∙ same x ∙ kept (ties lt x) y ys is) in
        ap (λ l. x ∷ l) (again x_up.1 y_up.1 (λ z. same_rest (ties lt z) x y xs ys e (same z))) ∙ ap (λ h. h ∷ ys) e
    go false is again =
        let in_ys : filter (ties lt x) ys ≡ x ∷ filter (ties lt x) xs = sym (left_out (ties lt x) y ys is) ∙ sym (same x) ∙ kept (ties lt x) x xs (ties_itself o x) in
        let back : ties lt y x ≡ false = flipped (not (lt x y)) (not (lt y x)) is in
        let in_xs : filter (ties lt y) xs ≡ y ∷ filter (ties lt y) ys = sym (left_out (ties lt y) x xs back) ∙ same y ∙ kept (ties lt y) y ys (ties_itself o y) in
        let x_no : not (lt x y) ≡ true = first_kept (ties lt x) (λ z. not (lt z y)) ys (filter (ties lt x) xs) x in_ys y_up.0 in
        let y_no : not (lt y x) ≡ true = first_kept (ties lt y) (λ z. not (lt z x)) xs (filter (ties lt y) ys) y in_xs x_up.0 in
        absurd (false≢true (sym is ∙ both (not (lt x y)) (not (lt y x)) x_no y_no))

-- ---- a row is inserted

filter-insert_before : {X : Type 0} (p test : X → Bool) (row : X) (rows : List X) → ((e : X) → test e ≡ false → p row ≡ true → p e ≡ false) → filter p (insert_before test row rows) ≡ filter p (row ∷ rows)
unfolding insert_before
filter-insert_before p test row [] apart = refl
filter-insert_before {X} p test row (e ∷ rows) apart = go (test e) (p row) (p e) refl refl refl (filter-insert_before p test row rows apart)
  where
    go : (t r k : Bool) → test e ≡ t → p row ≡ r → p e ≡ k → filter p (insert_before test row rows) ≡ filter p (row ∷ rows) → filter p (insert_before test row (e ∷ rows)) ≡ filter p (row ∷ e ∷ rows)
    go true r k is_t is_r is_k later = rw is_t refl
    go false true true is_t is_r is_k later = absurd (false≢true (sym (apart e is_t is_r) ∙ is_k))
    go false true false is_t is_r is_k later = rw is_t (left_out p e (insert_before test row rows) is_k ∙ later ∙ kept p row rows is_r ∙ ap (λ l. row ∷ l) (sym (left_out p e rows is_k)) ∙ sym (kept p row (e ∷ rows) is_r))
    go false false k is_t is_r is_k later = rw is_t (ap (λ l. cond (p e) (e ∷ l) l) (later ∙ left_out p row rows is_r) ∙ sym (left_out p row (e ∷ rows) is_r))

pub list_all-insert_before : {X : Type 0} (q test : X → Bool) (row : X) (rows : List X) → q row ≡ true → list_all q rows ≡ true → list_all q (insert_before test row rows) ≡ true
unfolding insert_before
list_all-insert_before q test row [] one all = both (q row) true one refl
list_all-insert_before {X} q test row (e ∷ rows) one all = go (test e) refl (list_all-insert_before q test row rows one)
  where
    parts : (q e ≡ true) × (list_all q rows ≡ true)
    parts = and_parts (q e) (list_all q rows) all

    go : (t : Bool) → test e ≡ t → (list_all q rows ≡ true → list_all q (insert_before test row rows) ≡ true) → list_all q (insert_before test row (e ∷ rows)) ≡ true
    go true is later = rw is (both (q row) (list_all q (e ∷ rows)) one all)
    go false is later = rw is (both (q e) (list_all q (insert_before test row rows)) parts.0 (later parts.1))

ascends-insert : {X : Type 0} (lt : X → X → Bool) → IsStrictWeakOrder lt → (row : X) (rows : List X) → ascends lt rows ≡ true → ascends lt (insert_before (λ other. not (lt other row)) row rows) ≡ true
unfolding insert_before
ascends-insert lt o row [] up = refl
ascends-insert {X} lt o row (e ∷ rows) up = go (lt e row) refl (ascends-insert lt o row rows)
  where
    parts : (list_all (λ y. not (lt y e)) rows ≡ true) × (ascends lt rows ≡ true)
    parts = and_parts (list_all (λ y. not (lt y e)) rows) (ascends lt rows) up

    opposite : (b : Bool) → b ≡ false → not b ≡ true
    opposite true h = absurd (false≢true (sym h))
    opposite false h = refl

    go : (b : Bool) → lt e row ≡ b → (ascends lt rows ≡ true → ascends lt (insert_before (λ other. not (lt other row)) row rows) ≡ true) → ascends lt (insert_before (λ other. not (lt other row)) row (e ∷ rows)) ≡ true
    go false is later =
        let behind = list_all-weaker (λ y. not (lt y e)) (λ y. not (lt y row)) (λ y h. opposite (lt y row) (o.chain y e row (negated (lt y e) h) is)) rows parts.0 in
        let all = both (not (lt e row)) (list_all (λ y. not (lt y row)) rows) (opposite (lt e row) is) behind in
        rw is (both (list_all (λ y. not (lt y row)) (e ∷ rows)) (ascends lt (e ∷ rows)) all up)
    go true is later =
        let front = list_all-insert_before (λ y. not (lt y e)) (λ other. not (lt other row)) row rows (opposite (lt row e) (o.one_way e row is)) parts.0 in
        rw is (both (list_all (λ y. not (lt y e)) (insert_before (λ other. not (lt other row)) row rows)) (ascends lt (insert_before (λ other. not (lt other row)) row rows)) front (later parts.1))

-- ---- rows in order

abbrev by_key : {R K : Type 0} → (K → K → Ordering) → (R → K) → R → R → Bool
by_key cmp key a b = is_lt (cmp (key a) (key b))

ascends-in_order : {R K : Type 0} {cmp : K → K → Ordering} → IsTotalOrder cmp → (key : R → K) (rows : List R) → ascends (by_key cmp key) (in_order cmp key rows) ≡ true
unfolding in_order
ascends-in_order total key [] = refl
ascends-in_order {R} {K} {cmp} total key (row ∷ rows) = ascends-insert (by_key cmp key) (ranks_by total key) row (in_order cmp key rows) (ascends-in_order total key rows)

-- what ties with an item doesn't tie with a lesser one
apart : {X : Type 0} {lt : X → X → Bool} → IsStrictWeakOrder lt → (z row e : X) → not (lt e row) ≡ false → ties lt z row ≡ true → ties lt z e ≡ false
apart {X} {lt} o z row e less tied = go (ties lt z e) refl
  where
    go : (b : Bool) → ties lt z e ≡ b → ties lt z e ≡ false
    go false is = is
    go true is =
        let e_z : lt e z ≡ false = negated (lt e z) (and_parts (not (lt z e)) (not (lt e z)) is).1 in
        let z_row : lt z row ≡ false = negated (lt z row) (and_parts (not (lt z row)) (not (lt row z)) tied).0 in
        absurd (false≢true (sym (o.chain e z row e_z z_row) ∙ affirmed (lt e row) less))

filter-in_order : {R K : Type 0} {cmp : K → K → Ordering} → IsTotalOrder cmp → (key : R → K) (z : R) (rows : List R) → filter (ties (by_key cmp key) z) (in_order cmp key rows) ≡ filter (ties (by_key cmp key) z) rows
unfolding in_order
filter-in_order total key z [] = refl
filter-in_order {R} {K} {cmp} total key z (row ∷ rows) =
    let lt = by_key cmp key in
    filter-insert_before (ties lt z) (λ other. not (lt other row)) row (in_order cmp key rows) (λ e. apart (ranks_by total key) z row e)
    ∙ ap (λ l. cond (ties lt z row) (row ∷ l) l) (filter-in_order total key z rows)

ascends-sorted : {X : Type 0} (lt : X → X → Bool) → IsStrictWeakOrder lt → (xs : List X) → IsSortedBy lt xs → ascends lt xs ≡ true
ascends-sorted lt o [] up = refl
ascends-sorted lt o (x ∷ xs) up =
    both (list_all (λ y. not (lt y x)) xs) (ascends lt xs)
    (list_all-from_AllPass (λ y. not (lt y x)) xs (λ k d h. ap not (sorted_far lt o (x ∷ xs) up 0 (suc k) d (omega arith) (omega arith))))
    (ascends-sorted lt o xs (λ k d low h. let next : suc k + 1 ≡ suc (k + 1) = omega arith in subst (λ i. lt (get_or (x ∷ xs) i d) (get_or xs k d) ≡ false) next (up (suc k) d (omega arith) (omega arith))))

-- what is sorted by keys, with ties as they stand, is in order
sorted_in_order : {R K : Type 0} {cmp : K → K → Ordering} → IsTotalOrder cmp → (key : R → K) (rows sorted : List R) → IsSortedByKey key cmp sorted → IsStableByKey key cmp rows sorted → sorted ≡ in_order cmp key rows
sorted_in_order {R} {K} {cmp} total key rows sorted up stable =
    let lt = by_key cmp key in
    same_in_order lt (ranks_by total key) sorted (in_order cmp key rows) (ascends-sorted lt (ranks_by total key) sorted up) (ascends-in_order total key rows)
    (λ z. stable z ∙ sym (filter-in_order total key z rows))

-- what `sort_by` leaves, where each call compares the keys
pub in_order-from_sort_by : {R K : Type 0} {cmp : K → K → Ordering} → IsTotalOrder cmp → (key : R → K) → {F : Type 0} {g : Mut F (Bor R × (Bor R × Unit {0})) Ordering} {f : F} (rows sorted : List R)
    → ((lt : R → R → Bool) → IsStrictWeakOrder lt → ComparesAs g lt f → IsSortedBy lt sorted)
    → ((lt : R → R → Bool) → IsStrictWeakOrder lt → ComparesAs g lt f → IsStableBy lt rows sorted)
    → ((a : Bor R × (Bor R × Unit {0})) (r : Ordering) (f' : F) → Called g f a r f' → (r ≡ cmp (key a.0.now) (key a.1.0.now)) × (f' ≡ f)) → sorted ≡ in_order cmp key rows
in_order-from_sort_by {R} {K} {cmp} total key {F} {g} {f} rows sorted up stable compares =
    let lt = by_key cmp key in
    let always = always_returns_same g (λ a r. is_lt r ≡ lt a.0.now a.1.0.now) f (λ a r f' k. (ap is_lt (compares a r f' k).0, (compares a r f' k).1)) in
    sorted_in_order total key rows sorted (up lt (ranks_by total key) always) (stable lt (ranks_by total key) always)

-- what a sort by a key leaves, where each call gives the key
pub in_order-from_sort_by_key : {R K : Type 0} {cmp : K → K → Ordering} → IsTotalOrder cmp → (key : R → K) → {F : Type 0} {g : Mut F (Bor R × Unit {0}) K} {f : F} (rows sorted : List R)
    → ((key : R → K) → ComputesKey g key f → IsSortedByKey key cmp sorted)
    → ((key : R → K) → ComputesKey g key f → IsStableByKey key cmp rows sorted)
    → ((a : Bor R × Unit {0}) (r : K) (f' : F) → Called g f a r f' → (r ≡ key a.0.now) × (f' ≡ f)) → sorted ≡ in_order cmp key rows
in_order-from_sort_by_key {R} {K} {cmp} total key {F} {g} {f} rows sorted up stable computes =
    let always = always_returns_same g (λ a r. r ≡ key a.0.now) f computes in
    sorted_in_order total key rows sorted (up key always) (stable key always)

-- ---- what rows are seen as

map-insert_before : {A B : Type 0} (f : A → B) (test : B → Bool) (row : A) (rows : List A) → map f (insert_before (λ a. test (f a)) row rows) ≡ insert_before test (f row) (map f rows)
unfolding insert_before
map-insert_before f test row [] = refl
map-insert_before {A} {B} f test row (a ∷ rows) = go (test (f a)) refl (map-insert_before f test row rows)
  where
    go : (b : Bool) → test (f a) ≡ b → map f (insert_before (λ a. test (f a)) row rows) ≡ insert_before test (f row) (map f rows) → map f (insert_before (λ a. test (f a)) row (a ∷ rows)) ≡ insert_before test (f row) (map f (a ∷ rows))
    go true is later = rw is refl
    go false is later = rw is (ap (λ l. f a ∷ l) later)

pub map-in_order : {A B K : Type 0} (cmp : K → K → Ordering) (key : B → K) (f : A → B) (rows : List A) → map f (in_order cmp (λ a. key (f a)) rows) ≡ in_order cmp key (map f rows)
unfolding in_order
map-in_order cmp key f [] = refl
map-in_order cmp key f (row ∷ rows) =
    map-insert_before f (λ other. not (is_lt (cmp (key other) (key (f row))))) row (in_order cmp (λ a. key (f a)) rows)
    ∙ ap (insert_before (λ other. not (is_lt (cmp (key other) (key (f row))))) (f row)) (map-in_order cmp key f rows)
