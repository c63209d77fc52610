-- Names that an earlier item has.
use Rattle.std.proofs.Common.{◌≡◌, ℕ, ◌+◌, ◌<◌, Bool, true, false, not, ◌&&◌, ◌||◌, List, [], ◌∷◌, ◌++◌, length, get_or, take, drop, map, Option, Some, None, Ordering, Less, Equal, Greater, nat_cmp, is_eq, Bor, refl, sym, ap, ◌∙◌, inl, inr, arith}
use Rattle.std.specs.Prelude.{if◌then◌else◌}
use Rattle.std.specs.List.{list_any}
use Rattle.std.specs.Str.{bytes_eq}
use Rattle.std.specs.Cmp.Lexicographic.{slice_cmp}
use Rattle.std.specs.Ordering.{match_ordering}
use Rattle.std.specs.BTreeSet.{insert_key}
use Rattle.std.proofs.lemmas.Bool.{and_parts, or_parts, cases_Bool, not-true}
use Rattle.std.proofs.lemmas.List.{drop_more, take_more, map_push}
use Rattle.std.proofs.lemmas.List.Folds.{list_any-append}
use Rattle.std.proofs.lemmas.Map.Text.{is_eq-slice_cmp}
use Rattle.std.proofs.lemmas.Slice.Eq.{bytes_eq-Decides}
use Rattle.realm_data.specs.Realm.{are_apart}
use Rattle.realm_fields.specs.Reading.{is_among}
use Rattle.realm_file.specs.Rules.{doubled_from}

-- one of the texts that these refer to is the query
abbrev pub has : List ℕ → List (Bor (List ℕ)) → Bool
has q ks = list_any (λ (k : Bor (List ℕ)). is_eq (slice_cmp nat_cmp q k.now)) ks

-- ---- equal texts

pub same_text : (a b : List ℕ) → bytes_eq a b ≡ true → a ≡ b
same_text a b h = (bytes_eq-Decides a b).0 h

pub bytes_eq-self : (a : List ℕ) → bytes_eq a a ≡ true
bytes_eq-self a = (bytes_eq-Decides a a).1 refl

same_tests : (a b : Bool) → (a ≡ true → b ≡ true) → (b ≡ true → a ≡ true) → a ≡ b
same_tests true b f g = sym (f refl)
same_tests false true f g = g refl
same_tests false false f g = refl

pub bytes_eq-sym : (a b : List ℕ) → bytes_eq a b ≡ bytes_eq b a
bytes_eq-sym a b = same_tests _ _
    (λ h. (bytes_eq-Decides b a).1 (sym (same_text a b h))) (λ h. (bytes_eq-Decides a b).1 (sym (same_text b a h)))

-- ---- a set of texts

abbrev text_cmp : Bor (List ℕ) → Bor (List ℕ) → Ordering
text_cmp a b = slice_cmp nat_cmp a.now b.now

moved : (a b c : Bool) → (a || (b || c)) ≡ (b || (a || c))
moved true true c = refl
moved true false c = refl
moved false true c = refl
moved false false c = refl

twice : (a c : Bool) → (a || c) ≡ (a || (a || c))
twice true c = refl
twice false c = refl

inserted_at : (o : Ordering) (q : List ℕ) (k x : Bor (List ℕ)) (ks : List (Bor (List ℕ))) → o ≡ text_cmp k x
    → has q (insert_key text_cmp ks k) ≡ (is_eq (slice_cmp nat_cmp q k.now) || has q ks)
    → has q (match_ordering o (k ∷ x ∷ ks) (x ∷ ks) (x ∷ insert_key text_cmp ks k)) ≡ (is_eq (slice_cmp nat_cmp q k.now) || has q (x ∷ ks))
inserted_at Less q k x ks same ih = refl
inserted_at Equal q k x ks same ih =
    let one : k.now ≡ x.now = same_text k.now x.now (sym (is_eq-slice_cmp k.now x.now) ∙ ap is_eq (sym same)) in
    rw one (twice (is_eq (slice_cmp nat_cmp q x.now)) (has q ks))
inserted_at Greater q k x ks same ih =
    rw ih (moved (is_eq (slice_cmp nat_cmp q x.now)) (is_eq (slice_cmp nat_cmp q k.now)) (has q ks))

-- what a set has after an insert
pub inserted : (q : List ℕ) (k : Bor (List ℕ)) (ks : List (Bor (List ℕ)))
    → has q (insert_key text_cmp ks k) ≡ (is_eq (slice_cmp nat_cmp q k.now) || has q ks)
inserted q k [] = refl
inserted q k (x ∷ ks) = inserted_at (text_cmp k x) q k x ks refl (inserted q k ks)

-- ---- one item after the other

module _ {A : Type 0} (name : A → List ℕ) (items : List A) (i : ℕ) (item : A) (here : i < length items) (at : get_or items i item ≡ item) where
  pub names_more : map name (take (i + 1) items) ≡ map name (take i items) ++ name item ∷ []
  names_more = rw (take_more items i item here, at) (map_push name (take i items) item)

  pub stands_first : (total : Option ℕ) → is_among (map name (take i items)) (name item) ≡ true
      → doubled_from name (map name (take i items)) i (drop i items) ≡ total → Some i ≡ total
  unfolding doubled_from
  stands_first total found so_far =
      let one : doubled_from name (map name (take i items)) i (drop i items) ≡ Some i = rw (drop_more items i item here, at, found) refl in
      sym one ∙ so_far

  pub goes_on : (total : Option ℕ) → is_among (map name (take i items)) (name item) ≡ false
      → doubled_from name (map name (take i items)) i (drop i items) ≡ total
      → doubled_from name (map name (take (i + 1) items)) (i + 1) (drop (i + 1) items) ≡ total
  unfolding doubled_from
  goes_on total none so_far =
      let one : doubled_from name (map name (take i items)) i (drop i items) ≡ doubled_from name (map name (take i items) ++ name item ∷ []) (i + 1) (drop (i + 1) items) =
      rw (drop_more items i item here, at, none) refl in
      rw names_more (sym one ∙ so_far)

or_last : (a b : Bool) → (a || (b || false)) ≡ (b || a)
or_last true true = refl
or_last true false = refl
or_last false true = refl
or_last false false = refl

-- the set holds one name more
pub holds_more : (q : List ℕ) (k : Bor (List ℕ)) (ks : List (Bor (List ℕ))) (earlier : List (List ℕ)) (n : List ℕ) → k.now ≡ n
    → has q ks ≡ is_among earlier q → has q (insert_key text_cmp ks k) ≡ is_among (earlier ++ n ∷ []) q
holds_more q k ks earlier n is so_far =
    inserted q k ks ∙ rw (so_far, is, is_eq-slice_cmp, list_any-append) (sym (or_last (is_among earlier q) (bytes_eq q n)))

-- no item is left
pub ends : {A : Type 0} (name : A → List ℕ) (items : List A) (i : ℕ) (earlier : List (List ℕ)) (total : Option ℕ)
    → drop i items ≡ [] → doubled_from name earlier i (drop i items) ≡ total → None ≡ total
unfolding doubled_from
ends name items i earlier total none so_far =
    let one : doubled_from name earlier i (drop i items) ≡ None = rw none refl in
    sym one ∙ so_far

-- ---- where no name is doubled

-- no two items have one name, and none has an earlier one
record AreNew {A : Type 0} (name : A → List ℕ) (earlier : List (List ℕ)) (items : List A) : Type 0 where
  apart : are_apart name items ≡ true
  other : (e : List ℕ) → is_among earlier e ≡ true → list_any (λ item. bytes_eq e (name item)) items ≡ false

none_at : (b : Bool) (i : ℕ) (rest : Option ℕ) → (if b then Some i else rest) ≡ None → (b ≡ false) × (rest ≡ None)
none_at true i rest h = absurd cc
none_at false i rest h = (refl, h)

are_new : {A : Type 0} (name : A → List ℕ) (earlier : List (List ℕ)) (i : ℕ) (items : List A) → doubled_from name earlier i items ≡ None
    → AreNew name earlier items
unfolding doubled_from are_apart
are_new name earlier i [] h = record { apart = refl; other = λ e _. refl }
are_new name earlier i (item ∷ items) h =
    let parts = none_at (is_among earlier (name item)) i _ h in
    let rest = are_new name (earlier ++ name item ∷ []) (i + 1) items parts.1 in
    let itself : is_among (earlier ++ name item ∷ []) (name item) ≡ true =
    rw (list_any-append, parts.0, bytes_eq-self (name item)) refl in
    let later : (e : List ℕ) → is_among earlier e ≡ true → is_among (earlier ++ name item ∷ []) e ≡ true =
    λ (e : List ℕ) (known : is_among earlier e ≡ true). rw (list_any-append, known) refl in
    record {
      apart = rw (rest.other (name item) itself, rest.apart) refl;
      other = λ e known. rw (differs e known parts.0, rest.other e (later e known)) refl;
    }
  where
    differs : (e : List ℕ) → is_among earlier e ≡ true → is_among earlier (name item) ≡ false → bytes_eq e (name item) ≡ false
    differs e known new = elim (cases_Bool (bytes_eq e (name item))) [
      | inl same ↦ absurd (both known (rw (same_text e (name item) same) new))
      | inr other ↦ other
    ]
      where
        both : is_among earlier e ≡ true → is_among earlier e ≡ false → ⊥
        both p q = absurd cc

pub are_apart_if : {A : Type 0} (name : A → List ℕ) (items : List A) → doubled_from name [] 0 items ≡ None → are_apart name items ≡ true
are_apart_if name items h = (are_new name [] 0 items h).apart
