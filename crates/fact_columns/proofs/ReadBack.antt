-- Lists that are read as they were written.
use Rattle.std.proofs.Common.{◌≡◌, ℕ, ◌<◌, Bool, true, false, ◌&&◌, ◌==◌, List, [], ◌∷◌, ◌++◌, length, map, append-nil, refl, ap, sym, ◌∙◌, arith}
use Rattle.std.specs.Prelude.{Option, Some, fold, codes}
use Rattle.std.specs.List.{All, flat_map, list_all, slice_split}
use Rattle.std.proofs.lemmas.Bool.{and_parts, false≢true}
use Rattle.std.proofs.lemmas.List.Splits.{slice_split_none, slice_split_at}
use Rattle.keeper_columns.specs.Lists.{parts_of, read_all, is_first, are_ascending, list_in}
use Rattle.keeper_columns.proofs.ListLemmas.{parts_of_some}
use Rattle.fact_columns.specs.Lists.{listed, placed, in_order}

both : (a b : Bool) → a ≡ true → b ≡ true → (a && b) ≡ true
both true b p q = q
both false b p q = absurd (false≢true p)

abbrev pub is_comma : ℕ → Bool
is_comma c = c == 44

-- ---- one item, and several

-- the text has no comma and isn't empty, and is read as the item
pub record IsRead {A : Type 0} (text : A → List ℕ) (read : List ℕ → Option A) (x : A) : Type 0 where
  pub some : 0 < length (text x)
  pub plain : All (λ b. is_comma b ≡ false) (text x)
  pub back : read (text x) ≡ Some x

module _ {A : Type 0} (text : A → List ℕ) (read : List ℕ → Option A) where
  abbrev pub AreRead : List A → Type 0
  AreRead [] = Unit {0}
  AreRead (x ∷ xs) = IsRead text read x × AreRead xs

  pub are_read : (test : A → Bool) → ((x : A) → test x ≡ true → IsRead text read x) → (xs : List A) → list_all test xs ≡ true → AreRead xs
  are_read test each [] h = tt
  are_read test each (x ∷ xs) h =
      let parts = and_parts (test x) (list_all test xs) h in
      (each x parts.0, are_read test each xs parts.1)

  pub all_read : ((x : A) → IsRead text read x) → (xs : List A) → AreRead xs
  all_read each [] = tt
  all_read each (x ∷ xs) = (each x, all_read each xs)

  cut : (x : A) (xs : List A) → IsRead text read x → AreRead xs
      → slice_split is_comma (text x ++ flat_map (λ next. codes "," ++ text next) xs) ≡ text x ∷ map text xs
  cut x [] is are = rw append-nil (slice_split_none is_comma (text x) is.plain)
  cut x (y ∷ ys) is are =
      slice_split_at is_comma (text x) 44 (text y ++ flat_map (λ next. codes "," ++ text next) ys) is.plain refl
      ∙ ap (λ l. text x ∷ l) (cut y ys are.0 are.1)

  longer : (some more : List ℕ) → 0 < length some → 0 < length (some ++ more)
  longer [] more h = absurd (omega arith)
  longer (b ∷ some) more h = omega arith

  parts : (xs : List A) → AreRead xs → parts_of (listed text xs) ≡ map text xs
  parts [] are = refl
  parts (x ∷ xs) are =
      sym (parts_of_some (listed text (x ∷ xs)) (longer (text x) _ are.0.some)) ∙ cut x xs are.0 are.1

  read_each : (xs : List A) → AreRead xs → read_all read (map text xs) ≡ Some xs
  unfolding read_all
  read_each [] are = refl
  read_each (x ∷ xs) are = rw (are.0.back, read_each xs are.1) refl

  pub read_back : (before : A → A → Bool) (xs : List A) → AreRead xs → are_ascending before xs ≡ true → list_in read before (listed text xs) ≡ Some xs
  unfolding list_in
  read_back before xs are up = rw (parts xs are, read_each xs are, up) refl

-- ---- items in order

-- what ties with an item stands before what that stands before
abbrev pub Ties : {A : Type 0} → (A → A → Bool) → Type 0
Ties {A} before = (x y z : A) → before y x ≡ false → before x y ≡ false → before y z ≡ true → before x z ≡ true

module _ {A : Type 0} (before : A → A → Bool) (ties : Ties before) where
  tie_first : (x y : A) (ys : List A) → before y x ≡ false → before x y ≡ false → is_first before y ys ≡ true → is_first before x ys ≡ true
  tie_first x y [] p q h = refl
  tie_first x y (z ∷ ys) p q h = ties x y z p q h

  still_first : (x y : A) (ys : List A) → before y x ≡ true → is_first before y ys ≡ true → is_first before y (placed before x ys) ≡ true
  unfolding placed
  still_first x y [] p h = p
  still_first x y (z ∷ ys) p h = go (before z x) (before x z) refl refl
    where
      go : (a b : Bool) → before z x ≡ a → before x z ≡ b → is_first before y (placed before x (z ∷ ys)) ≡ true
      go true b e f = rw e h
      go false true e f = rw (e, f) p
      go false false e f = rw (e, f) p

  placed_up : (x : A) (ys : List A) → are_ascending before ys ≡ true → are_ascending before (placed before x ys) ≡ true
  unfolding placed are_ascending
  placed_up x [] up = refl
  placed_up x (y ∷ ys) up =
      let halves = and_parts (is_first before y ys) (are_ascending before ys) up in
      go (before y x) (before x y) refl refl halves.0 halves.1 (placed_up x ys halves.1)
    where
      go : (a b : Bool) → before y x ≡ a → before x y ≡ b → is_first before y ys ≡ true → are_ascending before ys ≡ true
          → are_ascending before (placed before x ys) ≡ true → are_ascending before (placed before x (y ∷ ys)) ≡ true
      go true b e f first rest later = rw e (both _ _ (still_first x y ys e first) later)
      go false true e f first rest later = rw (e, f) (both _ _ f (both _ _ first rest))
      go false false e f first rest later = rw (e, f) (both _ _ (tie_first x y ys e f first) rest)

  folded_up : (done xs : List A) → are_ascending before done ≡ true → are_ascending before (fold (λ ordered item. placed before item ordered) done xs) ≡ true
  folded_up done [] up = up
  folded_up done (x ∷ xs) up = folded_up (placed before x done) xs (placed_up x done up)

  pub in_order_up : (xs : List A) → are_ascending before (in_order before xs) ≡ true
  unfolding in_order are_ascending
  in_order_up xs = folded_up [] xs refl

module _ {A : Type 0} (before : A → A → Bool) (test : A → Bool) where
  placed_all : (x : A) (ys : List A) → test x ≡ true → list_all test ys ≡ true → list_all test (placed before x ys) ≡ true
  unfolding placed
  placed_all x [] h all = both _ _ h refl
  placed_all x (y ∷ ys) h all =
      let halves = and_parts (test y) (list_all test ys) all in
      go (before y x) (before x y) refl refl halves.0 halves.1 (placed_all x ys h halves.1)
    where
      go : (a b : Bool) → before y x ≡ a → before x y ≡ b → test y ≡ true → list_all test ys ≡ true → list_all test (placed before x ys) ≡ true
          → list_all test (placed before x (y ∷ ys)) ≡ true
      go true b e f own rest later = rw e (both _ _ own later)
      go false true e f own rest later = rw (e, f) (both _ _ h (both _ _ own rest))
      go false false e f own rest later = rw (e, f) (both _ _ h rest)

  folded_all : (done xs : List A) → list_all test done ≡ true → list_all test xs ≡ true → list_all test (fold (λ ordered item. placed before item ordered) done xs) ≡ true
  folded_all done [] kept all = kept
  folded_all done (x ∷ xs) kept all =
      let halves = and_parts (test x) (list_all test xs) all in
      folded_all (placed before x done) xs (placed_all x done halves.0 kept) halves.1

  pub in_order_all : (xs : List A) → list_all test xs ≡ true → list_all test (in_order before xs) ≡ true
  unfolding in_order
  in_order_all xs all = folded_all [] xs refl all
