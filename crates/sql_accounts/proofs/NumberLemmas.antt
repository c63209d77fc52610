-- On rows and their rowids.
use Rattle.std.proofs.Common.{◌≡◌, ◌⊎◌, inl, inr, ℤ, ◌<◌, Bool, true, false, not, List, [], ◌∷◌, Some, ◌&&◌, map, filter, length, Ordering, Less, Equal, Greater, refl, sym, ap, subst, ◌∙◌, arith, true≢false}
use Rattle.std.specs.List.{AllByRecursion, list_all}
use Rattle.std.specs.Ordering.{is_eq, int_cmp, ordering_reverse}
use Rattle.std.proofs.lemmas.Bool.{cases_Bool}
use Rattle.std.proofs.lemmas.Bool.Decides.{nat_tests}
use Rattle.std.proofs.lemmas.Int.{ints}
use Rattle.std.proofs.lemmas.Cmp.{tied_itself}
use Rattle.sqlite.specs.declared.types.Value.TheVariants.{Int}
use Rattle.sqlite.specs.Collation.TheVariants.{Binary}
use Rattle.sqlite.specs.Order.{Row, value_cmp}
use Rattle.sqlite_value.proofs.OrderLemmas.{value_cmp-Int, value_cmp_total}
use Rattle.sqlite.specs.Term.{Term, col, op2, holds}
use Rattle.sqlite_sql.specs.declared.ops.BinaryOp.TheVariants.{Compare}
use Rattle.sqlite_sql.specs.declared.ops.CompareOp.TheVariants.{Eq}
use Rattle.sqlite_sql.specs.Ops.{binary, is_true, from_truth}
use Rattle.sqlite_trees.specs.Tree.{IsAscending, rowid, has_rowid, without_rowid, put_row}
use Rattle.sqlite_trees.specs.View.{is_int}
use Rattle.sqlite_rules.specs.Lists.{Has}
use Rattle.sqlite_rules.specs.Edit.{id_in, without_all, put_all}
use Rattle.sqlite_rules.proofs.TableLemmas.{int_is}
use Rattle.sqlite_rules.proofs.ListLemmas.{all_has, all_from, has_filtered, has_kept}
use Rattle.sqlite_rules.proofs.ProbeLemmas.{has_mapped}
use Rattle.sql_base.specs.Ready.{AreApart, AreNumbered}

-- the rowid is the first parameter
abbrev pub rowid_test : List Term
rowid_test = op2 (Compare Eq Binary) (col 1 0) (col 0 0) ∷ []

-- the test of a text is the store's own
pub told : (b : Bool) → (is_true (from_truth (Some b)) && true) ≡ b
told true = refl
told false = refl

pub tests_number : (id : ℤ) (r : Row) → is_int (rowid r) ≡ true → list_all (holds ((Int id ∷ []) ∷ r ∷ [])) rowid_test ≡ has_rowid id r
unfolding binary
tests_number id r keyed = let v = int_is (rowid r) keyed in rw v (told (is_eq (value_cmp (Int (id_in (rowid r))) (Int id))))

pub number_is : (id : ℤ) (r : Row) → is_int (rowid r) ≡ true → has_rowid id r ≡ true → rowid r ≡ Int id
number_is id r keyed has =
    let v = int_is (rowid r) keyed in
    let n = id_in (rowid r) in
    let same : is_eq (int_cmp n id) ≡ true = ap is_eq (sym (value_cmp-Int n id)) ∙ ap (λ w. is_eq (value_cmp w (Int id))) (sym v) ∙ has in
    v ∙ ap Int (grind (arith, ints, nat_tests))

-- ---- taking a number out

pub spares_all : (id : ℤ) (rows : List Row) → ((r : Row) → Has rows r → has_rowid id r ≡ false) → without_rowid id rows ≡ rows
spares_all id [] none = refl
spares_all id (r ∷ rows) none = rw (none r (inl refl)) (ap (λ l. r ∷ l) (spares_all id rows (λ x h. none x (inr h))))

not_false : (b : Bool) → not b ≡ true → b ≡ false
not_false true e = absurd (true≢false (sym e))
not_false false e = refl

pub left_without : (id : ℤ) (rows : List Row) (r : Row) → Has (without_rowid id rows) r → Has rows r × (has_rowid id r ≡ false)
left_without id rows r h = let kept = has_filtered (λ x. not (has_rowid id x)) rows r h in (kept.0, not_false (has_rowid id r) kept.1)

pub still_there : (id : ℤ) (rows : List Row) (r : Row) → Has rows r → has_rowid id r ≡ false → Has (without_rowid id rows) r
still_there id rows r h other = has_kept (λ x. not (has_rowid id x)) rows r h (ap not other)

pub without_same : (id : ℤ) (ids : List ℤ) (rows : List Row) → AllByRecursion (λ n. n ≡ id) ids → ((r : Row) → Has rows r → has_rowid id r ≡ true → 0 < length ids) → without_all rows ids ≡ without_rowid id rows
without_same id [] rows all some = sym (spares_all id rows (λ r h. elim (cases_Bool (has_rowid id r)) [ inl e ↦ absurd (let no : 0 < 0 = some r h e in omega arith) | inr e ↦ e ]))
without_same id (n ∷ ids) rows all some =
    let first = all.0 in
    rw first (without_same id ids (without_rowid id rows) all.1 (λ r h e. absurd (true≢false (sym e ∙ (left_without id rows r h).1))) ∙ spares_all id (without_rowid id rows) (λ r h. (left_without id rows r h).1))

-- ---- putting a row in

put_later : (s r : Row) (rows : List Row) → put_row s (put_row s rows) ≡ put_row s rows → (o : Ordering) → value_cmp (rowid r) (rowid s) ≡ o → put_row s (put_row s (r ∷ rows)) ≡ put_row s (r ∷ rows)
put_later s r rows later Less e = rw (e, e) (ap (λ l. r ∷ l) later)
put_later s r rows later Equal e = rw (e, tied_itself value_cmp_total (rowid s)) refl
put_later s r rows later Greater e = rw (e, tied_itself value_cmp_total (rowid s)) refl

put_again : (s : Row) (rows : List Row) → put_row s (put_row s rows) ≡ put_row s rows
put_again s [] = rw (tied_itself value_cmp_total (rowid s)) refl
put_again s (r ∷ rows) = put_later s r rows (put_again s rows) (value_cmp (rowid r) (rowid s)) refl

pub put_same : (s : Row) (news rows : List Row) → AllByRecursion (λ r. r ≡ s) news → 0 < length news → put_all rows news ≡ put_row s rows
put_same s [] rows all some = absurd (omega arith)
put_same s (n ∷ []) rows all some = ap (λ x. put_row x rows) all.0
put_same s (n ∷ m ∷ news) rows all some = ap (λ x. put_all (put_row x rows) (m ∷ news)) all.0 ∙ put_same s (m ∷ news) (put_row s rows) all.1 (omega arith) ∙ put_again s rows

-- ---- which rows there are then

abbrev Apart : Row → Row → Type 0
Apart a b = is_eq (value_cmp (rowid a) (rowid b)) ≡ false

has_put_by : (s r : Row) (rows : List Row) (x : Row) (o : Ordering) → value_cmp (rowid r) (rowid s) ≡ o → (Has (put_row s rows) x → (x ≡ s) ⊎ Has rows x) → Has (put_row s (r ∷ rows)) x → (x ≡ s) ⊎ Has (r ∷ rows) x
has_put_by s r rows x Less e later h = elim (rw e at h) [ inl same ↦ inr (inl same) | inr g ↦ elim (later g) [ inl new ↦ inl new | inr old ↦ inr (inr old) ] ]
has_put_by s r rows x Equal e later h = elim (rw e at h) [ inl same ↦ inl same | inr g ↦ inr (inr g) ]
has_put_by s r rows x Greater e later h = elim (rw e at h) [ inl same ↦ inl same | inr g ↦ inr g ]

pub has_put : (s : Row) (rows : List Row) (x : Row) → Has (put_row s rows) x → (x ≡ s) ⊎ Has rows x
has_put s [] x h = h
has_put s (r ∷ rows) x h = has_put_by s r rows x (value_cmp (rowid r) (rowid s)) refl (has_put s rows x) h

put_new_by : (s r : Row) (rows : List Row) (o : Ordering) → value_cmp (rowid r) (rowid s) ≡ o → Has (put_row s rows) s → Has (put_row s (r ∷ rows)) s
put_new_by s r rows Less e later = rw e (inr later)
put_new_by s r rows Equal e later = rw e (inl refl)
put_new_by s r rows Greater e later = rw e (inl refl)

pub put_new : (s : Row) (rows : List Row) → Has (put_row s rows) s
put_new s [] = inl refl
put_new s (r ∷ rows) = put_new_by s r rows (value_cmp (rowid r) (rowid s)) refl (put_new s rows)

put_old_by : (s r : Row) (rows : List Row) (x : Row) (o : Ordering) → value_cmp (rowid r) (rowid s) ≡ o → Apart r s → (Has rows x → Has (put_row s rows) x) → Has (r ∷ rows) x → Has (put_row s (r ∷ rows)) x
put_old_by s r rows x Less e apart later (inl same) = rw e (inl same)
put_old_by s r rows x Less e apart later (inr g) = rw e (inr (later g))
put_old_by s r rows x Equal e apart later h = absurd (true≢false (sym (ap is_eq e) ∙ apart))
put_old_by s r rows x Greater e apart later h = rw e (inr h)

pub put_old : (s : Row) (rows : List Row) (x : Row) → ((r : Row) → Has rows r → Apart r s) → Has rows x → Has (put_row s rows) x
put_old s [] x apart h = absurd h
put_old s (r ∷ rows) x apart h = put_old_by s r rows x (value_cmp (rowid r) (rowid s)) refl (apart r (inl refl)) (put_old s rows x (λ y g. apart y (inr g))) h

-- ---- rowids stay apart

flips : (o : Ordering) → is_eq o ≡ false → is_eq (ordering_reverse o) ≡ false
flips Less e = e
flips Equal e = absurd (true≢false e)
flips Greater e = e

pub apart_back : (a b : Row) → Apart a b → Apart b a
apart_back a b h = ap is_eq (value_cmp_total.antisymm (rowid b) (rowid a)) ∙ flips (value_cmp (rowid a) (rowid b)) h

put_apart_by : (s r : Row) (rows : List Row) (o : Ordering) → value_cmp (rowid r) (rowid s) ≡ o → ((x : Row) → Has (r ∷ rows) x → Apart x s) → AreApart value_cmp rowid (r ∷ rows) → AreApart value_cmp rowid (put_row s rows) → AreApart value_cmp rowid (put_row s (r ∷ rows))
put_apart_by s r rows Less e from up later =
    rw e (all_from (Apart r) (put_row s rows) (λ x h. elim (has_put s rows x h) [ inl same ↦ subst (Apart r) (sym same) (from r (inl refl)) | inr g ↦ all_has (Apart r) rows x up.0 g ]), later)
put_apart_by s r rows Equal e from up later = absurd (true≢false (sym (ap is_eq e) ∙ from r (inl refl)))
put_apart_by s r rows Greater e from up later = rw e (all_from (Apart s) (r ∷ rows) (λ x h. apart_back x s (from x h)), up)

pub put_apart : (s : Row) (rows : List Row) → ((x : Row) → Has rows x → Apart x s) → AreApart value_cmp rowid rows → AreApart value_cmp rowid (put_row s rows)
put_apart s [] from up = (tt, tt)
put_apart s (r ∷ rows) from up = put_apart_by s r rows (value_cmp (rowid r) (rowid s)) refl from up (put_apart s rows (λ x h. from x (inr h)) up.1)

pub filter_apart : {X : Type 0} (R : X → X → Type 0) (p : X → Bool) (xs : List X) → IsAscending R xs → IsAscending R (filter p xs)
filter_apart R p [] up = tt
filter_apart {X} R p (x ∷ xs) up = go (p x) refl (filter_apart R p xs up.1)
  where
    go : (b : Bool) → p x ≡ b → IsAscending R (filter p xs) → IsAscending R (filter p (x ∷ xs))
    go true is later = rw is (all_from (R x) (filter p xs) (λ y h. all_has (R x) xs y up.0 (has_filtered p xs y h).0), later)
    go false is later = rw is later

pub map_apart : {X Y : Type 0} (P : X → X → Type 0) (Q : Y → Y → Type 0) (f : X → Y) (xs : List X) → ((a b : X) → Has xs a → Has xs b → P a b → Q (f a) (f b)) → IsAscending P xs → IsAscending Q (map f xs)
map_apart P Q f [] carries up = tt
map_apart P Q f (x ∷ xs) carries up = (
  all_from (Q (f x)) (map f xs) (λ y h. let it = has_mapped f xs y h in subst (Q (f x)) (sym it.2) (carries x it.0 (inl refl) (inr it.1) (all_has (P x) xs it.0 up.0 it.1))),
  map_apart P Q f xs (λ a b g h. carries a b (inr g) (inr h)) up.1,
)

pub numbered_without : (id : ℤ) (rows : List Row) → AreNumbered rows → AreNumbered (without_rowid id rows)
numbered_without id rows n = record {
  numbers = all_from _ (without_rowid id rows) (λ r h. all_has _ rows r n.numbers (left_without id rows r h).0);
  apart = filter_apart Apart (λ x. not (has_rowid id x)) rows n.apart;
}

pub numbered_put : (id : ℤ) (s : Row) (rows : List Row) → rowid s ≡ Int id → AreNumbered rows → AreNumbered (put_row s (without_rowid id rows))
numbered_put id s rows is n =
    let left = numbered_without id rows n in
    let from : (x : Row) → Has (without_rowid id rows) x → Apart x s = λ x h. rw is ((left_without id rows x h).1) in
    record {
      numbers = all_from _ (put_row s (without_rowid id rows)) (λ r h. elim (has_put s (without_rowid id rows) r h) [ inl same ↦ rw (same, is) refl | inr g ↦ all_has _ _ r left.numbers g ]);
      apart = put_apart s (without_rowid id rows) from left.apart;
    }
