-- Keys are noted in a set, one after the other.
use Rattle.std.proofs.Common.{◌≡◌, ℕ, ◌+◌, ◌<◌, ◌≤◌, Bool, true, false, not, ◌||◌, cond, List, [], ◌∷◌, ◌++◌, length, map, take, drop, get_or, Some, None, Ordering, Less, Equal, Greater, nat_cmp, nat_eq, refl, ap, sym, ◌∙◌, arith}
use Rattle.std.specs.Prelude.{Option}
use Rattle.std.specs.Ordering.{is_eq}
use Rattle.std.specs.Cmp.{IsTotalOrder}
use Rattle.std.specs.List.{list_any}
use Rattle.std.specs.BTreeSet.{BTreeSet, Updates, contains}
use Rattle.std.proofs.lemmas.Cmp.{tied_back}
use Rattle.std.proofs.lemmas.List.{take_more, drop_more, length-take}
use Rattle.std.proofs.lemmas.List.Folds.{list_any-append}
use Rattle.std.proofs.Math.ListN.{drop_of_length-le}
use Rattle.std.proofs.lemmas.Bool.Decides.{nat_tests}
use Rattle.keeper_rows.specs.declared.rows.AccountRow.{AccountRow}
use Rattle.keeper_rules.specs.Misfits.{AreUsers}
use Rattle.keeper_columns.specs.Ranges.{natural}
use Rattle.keeper_rules.specs.Repeats.{repeat_after, first_repeat}

abbrev pub same_key : {K : Type 0} → (K → K → Ordering) → K → K → Bool
same_key cmp a b = is_eq (cmp a b)

-- the set has the keys before a place, none of which repeats an earlier one
pub record Noted {K : Type 0} (cmp : K → K → Ordering) (set keys : List K) (at : ℕ) : Type 0 where
  pub has : (q : K) → list_any (same_key cmp q) set ≡ list_any (same_key cmp q) (take at keys)
  pub left : first_repeat (same_key cmp) keys ≡ repeat_after (same_key cmp) (take at keys) (drop at keys)

pub none_noted : {K : Type 0} (cmp : K → K → Ordering) (set keys : List K) → set ≡ [] → Noted cmp set keys 0
none_noted cmp set keys empty = record { has = λ q. rw empty refl; left = refl }

here : {K : Type 0} (cmp : K → K → Ordering) (keys : List K) (at : ℕ) (key : K) → key ≡ get_or keys at key → at < length keys → (b : Bool) → list_any (same_key cmp key) (take at keys) ≡ b
    → repeat_after (same_key cmp) (take at keys) (drop at keys) ≡ cond b (Some at) (repeat_after (same_key cmp) (take (at + 1) keys) (drop (at + 1) keys))
unfolding repeat_after
here cmp keys at key is_at lt b is =
    let len : length (take at keys) ≡ at = length-take at keys ∙ omega arith in
    rw (drop_more keys at key lt, take_more keys at key lt, ← is_at, is, len) refl

pub repeats_here : {K : Type 0} (cmp : K → K → Ordering) (set keys : List K) (at : ℕ) (key : K) → key ≡ get_or keys at key → Noted cmp set keys at → at < length keys → not (list_any (same_key cmp key) set) ≡ false
    → Some at ≡ first_repeat (same_key cmp) keys
repeats_here cmp set keys at key is_at noted lt had =
    sym (noted.left ∙ here cmp keys at key is_at lt true (sym (noted.has key) ∙ negated (list_any (same_key cmp key) set) had))
  where
    negated : (b : Bool) → not b ≡ false → b ≡ true
    negated true h = refl
    negated false h = absurd cc

pub repeats_nowhere : {K : Type 0} (cmp : K → K → Ordering) (set keys : List K) (at : ℕ) → Noted cmp set keys at → length keys ≤ at → ◌≡◌ {A = Option ℕ} None (first_repeat (same_key cmp) keys)
unfolding repeat_after
repeats_nowhere cmp set keys at noted past = sym (noted.left ∙ rw (drop_of_length-le keys past) refl)

either_way : {K : Type 0} {cmp : K → K → Ordering} → IsTotalOrder cmp → (a b : K) → is_eq (cmp a b) ≡ is_eq (cmp b a)
either_way {K} {cmp} total a b = go (cmp a b) (cmp b a) (tied_back total a b) (tied_back total b a)
  where
    go : (x y : Ordering) → (x ≡ Equal → y ≡ Equal) → (y ≡ Equal → x ≡ Equal) → is_eq x ≡ is_eq y
    go Less Less p q = refl
    go Less Equal p q = absurd (let e : Less ≡ Equal = q refl in cc)
    go Less Greater p q = refl
    go Equal y p q = ap is_eq (sym (p refl))
    go Greater Less p q = refl
    go Greater Equal p q = absurd (let e : Greater ≡ Equal = q refl in cc)
    go Greater Greater p q = refl

chosen : (is had : Bool) → cond is true had ≡ (had || (is || false))
chosen true true = refl
chosen true false = refl
chosen false true = refl
chosen false false = refl

pub one_noted : {K : Type 0} {cmp : K → K → Ordering} → IsTotalOrder cmp → (old new : BTreeSet K) (keys : List K) (at : ℕ) (key : K) → key ≡ get_or keys at key → Noted cmp old.keys keys at → at < length keys
    → not (list_any (same_key cmp key) old.keys) ≡ true → Updates cmp old new key true → Noted cmp new.keys keys (at + 1)
one_noted {K} {cmp} total old new keys at key is_at noted lt none updates = record {
  has = λ q.
      updates.0 q ∙ ap (λ b. cond b true (list_any (same_key cmp q) old.keys)) (either_way total key q)
      ∙ chosen (is_eq (cmp q key)) (list_any (same_key cmp q) old.keys)
      ∙ ap (λ b. b || (same_key cmp q key || false)) (noted.has q)
      ∙ sym (ap (list_any (same_key cmp q)) (take_more keys at key lt ∙ ap (λ k. take at keys ++ k ∷ []) (sym is_at)) ∙ list_any-append (same_key cmp q) (take at keys) (key ∷ []));
  left = noted.left ∙ here cmp keys at key is_at lt false (sym (noted.has key) ∙ negated (list_any (same_key cmp key) old.keys) none);
}
  where
    negated : (b : Bool) → not b ≡ true → b ≡ false
    negated true h = absurd cc
    negated false h = refl

-- ---- what the items are told apart by

any_by : {A K : Type 0} (by : K → Bool) (test : A → Bool) (f : A → K) → ((a : A) → test a ≡ by (f a)) → (items : List A) → list_any by (map f items) ≡ list_any test items
any_by by test f each [] = refl
any_by by test f each (item ∷ items) = rw (each item, any_by by test f each items) refl

map-push : {A K : Type 0} (f : A → K) (items : List A) (item : A) → map f (items ++ item ∷ []) ≡ map f items ++ f item ∷ []
map-push f [] item = refl
map-push f (i ∷ items) item = ap (λ l. f i ∷ l) (map-push f items item)

length-map : {A K : Type 0} (f : A → K) (items : List A) → length (map f items) ≡ length items
length-map f [] = refl
length-map f (item ∷ items) = rw (length-map f items) refl

repeat_by : {A K : Type 0} (by : K → K → Bool) (same : A → A → Bool) (f : A → K) → ((a b : A) → same a b ≡ by (f a) (f b)) → (before items : List A)
    → repeat_after by (map f before) (map f items) ≡ repeat_after same before items
unfolding repeat_after
repeat_by by same f each before [] = refl
repeat_by by same f each before (item ∷ items) =
    let rest = repeat_by by same f each (before ++ item ∷ []) items in
    rw (any_by (by (f item)) (same item) f (each item) before, length-map f before, ← map-push f before item, rest) refl

-- items are repeated where their keys are
pub repeats_by : {A K : Type 0} (by : K → K → Bool) (same : A → A → Bool) (f : A → K) → ((a b : A) → same a b ≡ by (f a) (f b)) → (keys : List K) (items : List A) → keys ≡ map f items
    → first_repeat by keys ≡ first_repeat same items
repeats_by by same f each keys items are = ap (first_repeat by) are ∙ repeat_by by same f each [] items

-- ---- the ids of accounts

pub no_users : (empty : BTreeSet ℕ) → empty.keys ≡ [] → AreUsers empty []
no_users empty is n = rw is refl

same_number : (a b : ℕ) → is_eq (nat_cmp a b) ≡ nat_eq b a
same_number a b = grind (arith, nat_tests)

pub one_user : (old new : BTreeSet ℕ) (accounts : List AccountRow) (at : ℕ) (account : AccountRow) → account ≡ get_or accounts at account → at < length accounts → AreUsers old (take at accounts) → Updates nat_cmp old new (natural account.id) true
    → AreUsers new (take (at + 1) accounts)
one_user old new accounts at account is_at lt are updates n =
    let has : AccountRow → Bool = λ (a : AccountRow). nat_eq n (natural a.id) in
    updates.0 n ∙ ap (λ b. cond b true (contains nat_cmp old n)) (same_number (natural account.id) n)
    ∙ ap (cond (has account) true) (are n) ∙ chosen (has account) (list_any has (take at accounts))
    ∙ sym (ap (list_any has) (take_more accounts at account lt ∙ ap (λ a. take at accounts ++ a ∷ []) (sym is_at)) ∙ list_any-append has (take at accounts) (account ∷ []))
