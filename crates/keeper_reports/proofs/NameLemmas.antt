-- The places of accounts, noted one after the other.
use Rattle.std.proofs.Common.{◌≡◌, ℕ, ◌+◌, ◌<◌, ◌≤◌, ℤ, ◌<ℤ◌, Bool, true, false, cond, List, [], ◌∷◌, ◌++◌, length, take, get_or, Some, None, Ordering, Less, Equal, Greater, refl, ap, sym, subst, ◌∙◌, arith, length-append}
use Rattle.std.specs.Prelude.{Option, is_some, position, find, slice_get}
use Rattle.std.specs.BTreeMap.{BTreeMap, Updates, get}
use Rattle.std.specs.List.{position_or_len}
use Rattle.std.specs.Option.{option_or}
use Rattle.std.specs.Ordering.{MatchOrdering, int_cmp, int_eq, is_eq}
use Rattle.std.proofs.lemmas.Bool.{false≢true}
use Rattle.std.proofs.lemmas.Bool.Decides.{nat_tests}
use Rattle.std.proofs.lemmas.Cmp.{int_ranked}
use Rattle.std.proofs.lemmas.List.{take_more, length-take}
use Rattle.std.proofs.lemmas.List.Folds.{find_at, position_or_len_push}
use Rattle.std.proofs.lemmas.Option.{slice_get_past, slice_get_read}
use Rattle.keeper_rows.specs.declared.rows.AccountRow.{AccountRow}
use Rattle.keeper_reports.specs.Names.{IsNoted, ArePlaces}

-- ---- places

within : {A : Type 0} (test : A → Bool) (items : List A) → position_or_len test items ≤ length items
within test [] = omega arith
within {A} test (item ∷ items) = go (test item) refl (within test items)
  where
    go : (b : Bool) → test item ≡ b → position_or_len test items ≤ length items → position_or_len test (item ∷ items) ≤ length (item ∷ items)
    go true is le = rw is (omega arith)
    go false is le = rw is (omega arith)

found_place : {A : Type 0} (test : A → Bool) (items : List A) (at : ℕ) → Some at ≡ position test items → (at ≡ position_or_len test items) × (at < length items)
found_place test items at is = (grind (arith, nat_tests), grind (arith, nat_tests))

missed_place : {A : Type 0} (test : A → Bool) (items : List A) → ◌≡◌ {A = Option ℕ} None (position test items) → length items ≤ position_or_len test items
missed_place test items is = let le = within test items in grind (arith, nat_tests, le)

pub found : {A : Type 0} (test : A → Bool) (items : List A) (at : ℕ) (item : A) → Some at ≡ position test items → item ≡ get_or items at item → find test items ≡ Some item
found test items at item is here =
    let place = found_place test items at is in
    find_at test items ∙ ap (slice_get items) (sym place.0) ∙ slice_get_read items (length items) at item refl place.1 here

pub missed : {A : Type 0} (test : A → Bool) (items : List A) → ◌≡◌ {A = Option ℕ} None (position test items) → find test items ≡ None
missed test items is = find_at test items ∙ slice_get_past items (position_or_len test items) (missed_place test items is)

-- ---- one more item

still_there : {A : Type 0} (test : A → Bool) (items : List A) (item : A) → is_some (position test items) ≡ true → position test (items ++ item ∷ []) ≡ position test items
still_there test items item some =
    let more = position_or_len_push test items item in
    let le = within test items in
    let long = length-append items (item ∷ []) in
    grind (arith, nat_tests, more, le, long)

not_this : {A : Type 0} (test : A → Bool) (items : List A) (item : A) → test item ≡ false → position test (items ++ item ∷ []) ≡ position test items
not_this test items item fails =
    let more = position_or_len_push test items item in
    let le = within test items in
    let long = length-append items (item ∷ []) in
    grind (arith, nat_tests, more, le, long)

this_one : {A : Type 0} (test : A → Bool) (items : List A) (item : A) → is_some (position test items) ≡ false → test item ≡ true → position test (items ++ item ∷ []) ≡ Some (length items)
this_one test items item missing passes =
    let more = position_or_len_push test items item in
    let le = within test items in
    let long = length-append items (item ∷ []) in
    grind (arith, nat_tests, more, le, long)

-- the first place in a list that has grown by an item
position-push : {A : Type 0} (test : A → Bool) (items : List A) (item : A) → position test (items ++ item ∷ []) ≡ option_or (position test items) (cond (test item) (Some (length items)) None)
position-push {A} test items item = go (position test items) (test item) refl refl
  where
    go : (p : Option ℕ) (b : Bool) → position test items ≡ p → test item ≡ b → position test (items ++ item ∷ []) ≡ option_or (position test items) (cond (test item) (Some (length items)) None)
    go (Some at) b is _ = still_there test items item (ap is_some is) ∙ is ∙ sym (ap (λ p. option_or p (cond (test item) (Some (length items)) None)) is)
    go None true is passes = this_one test items item (ap is_some is) passes ∙ sym (ap (λ p. option_or p (cond (test item) (Some (length items)) None)) is ∙ ap (λ b. cond b (Some (length items)) None) passes)
    go None false is fails = not_this test items item fails ∙ is ∙ sym (ap (λ p. option_or p (cond (test item) (Some (length items)) None)) is ∙ ap (λ b. cond b (Some (length items)) None) fails)

-- ---- ids

same_number : (x y : ℤ) → int_eq x y ≡ true → x ≡ y
same_number x y e = go (int_cmp x y) (int_ranked x y (int_cmp x y) refl) e
  where
    go : (o : Ordering) → MatchOrdering o (x <ℤ y) (x ≡ y) (y <ℤ x) → is_eq o ≡ true → x ≡ y
    go Less h e = absurd (false≢true e)
    go Equal h e = h
    go Greater h e = absurd (false≢true e)

or_none : {A : Type 0} (o : Option A) → o ≡ option_or o None
or_none None = refl
or_none (Some x) = refl

-- a new id is given its place
pub inserted : (old new : BTreeMap ℤ ℕ) (id : ℤ) (place : ℕ) → is_some (get int_cmp old id) ≡ false → Updates int_cmp old new id (Some place) → IsNoted old new id place
inserted old new id place missing updates other = updates.0 other ∙ go (int_eq id other) refl
  where
    nothing : (o : Option ℕ) → is_some o ≡ false → o ≡ None
    nothing None h = refl
    nothing (Some x) h = absurd (false≢true (sym h))

    go : (b : Bool) → int_eq id other ≡ b → cond (int_eq id other) (Some place) (get int_cmp old other) ≡ option_or (get int_cmp old other) (cond (int_eq id other) (Some place) None)
    go true same =
        let none : get int_cmp old other ≡ None = nothing (get int_cmp old other) (subst (λ i. is_some (get int_cmp old i) ≡ false) (same_number id other same) missing) in
        rw (same, none) refl
    go false same = rw same (or_none (get int_cmp old other))

-- an id that has a place keeps it
pub untouched : (places : BTreeMap ℤ ℕ) (id : ℤ) (place : ℕ) → is_some (get int_cmp places id) ≡ true → IsNoted places places id place
untouched places id place there other = go (get int_cmp places other) (int_eq id other) refl refl
  where
    go : (o : Option ℕ) (b : Bool) → get int_cmp places other ≡ o → int_eq id other ≡ b → get int_cmp places other ≡ option_or (get int_cmp places other) (cond (int_eq id other) (Some place) None)
    go (Some at) b is _ = is ∙ sym (ap (λ o. option_or o (cond (int_eq id other) (Some place) None)) is)
    go None false is other_id = rw other_id (or_none (get int_cmp places other))
    go None true is same = absurd (false≢true (sym (ap is_some is) ∙ subst (λ i. is_some (get int_cmp places i) ≡ true) (same_number id other same) there))

-- ---- accounts

abbrev has : ℤ → AccountRow → Bool
has id a = int_eq a.id id

-- the places of accounts, and of one more
pub one_more : (old new : BTreeMap ℤ ℕ) (accounts : List AccountRow) (at : ℕ) (account : AccountRow) → account ≡ get_or accounts at account → at < length accounts → ArePlaces old (take at accounts)
    → IsNoted old new account.id at → ArePlaces new (take (at + 1) accounts)
one_more old new accounts at account is lt before noted id =
    let long : length (take at accounts) ≡ at = length-take at accounts ∙ omega arith in
    let grown : take (at + 1) accounts ≡ take at accounts ++ account ∷ [] = take_more accounts at account lt ∙ ap (λ a. take at accounts ++ a ∷ []) (sym is) in
    noted id ∙ ap (λ o. option_or o (cond (int_eq account.id id) (Some at) None)) (before id)
    ∙ ap (λ n. option_or (position (has id) (take at accounts)) (cond (int_eq account.id id) (Some n) None)) (sym long)
    ∙ sym (ap (position (has id)) grown ∙ position-push (has id) (take at accounts) account)
