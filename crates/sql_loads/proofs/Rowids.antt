-- Rows in the order of their rowids.
use Rattle.std.proofs.Common.{◌≡◌, ◌+◌, ℕ, Bool, true, false, not, None, List, [], ◌∷◌, map, Ordering, Less, refl, sym, ap, subst, ◌∙◌}
use Rattle.std.specs.Prelude.{option_map}
use Rattle.std.specs.Ordering.{is_eq}
use Rattle.std.specs.List.{AllByRecursion, position, position_from}
use Rattle.std.proofs.lemmas.Iterator.Adapters.{position_from-zero}
use Rattle.std.proofs.lemmas.List.Sorted.{IsPermutation-sym}
use Rattle.sqlite.specs.declared.types.Value.{Value}
use Rattle.sqlite.specs.Order.{Row, column, value_cmp}
use Rattle.sqlite_value.proofs.OrderLemmas.{value_cmp_total}
use Rattle.sqlite_catalog.proofs.ListFacts.{none_placed}
use Rattle.sqlite_trees.specs.Tree.{rowid}
use Rattle.sqlite_trees.proofs.ListLemmas.{ascending-map, ascending_weaker}
use Rattle.sqlite_rules.specs.Lists.{Has}
use Rattle.sqlite_rules.proofs.ListLemmas.{all_has}
use Rattle.sqlite_rules.proofs.ProbeLemmas.{has_mapped, mapped_has}
use Rattle.sql_base.specs.Ready.{AreApart, AreNumbered}
use Rattle.sql_base.specs.Steps.{AreListed}
use Rattle.sql_base.specs.Told.{by_key}
use Rattle.sql_base.proofs.QueryLemmas.{has_permuted}
use Rattle.sql_base.proofs.TellLemmas.{IsRising, told_rising, told_alike, told_same}
use Rattle.sql_accounts.proofs.TableLemmas.{IsKeyed, keys_apart}
use Rattle.sql_sessions.proofs.Apart.{apart_weaker}
use Rattle.sql_loads.specs.Loads.{by_rowid}
use Rattle.sql_loads.proofs.Rising.{apart_permuted, rising_from_next, rises_sorted}

-- ---- the number of the first row that doesn't pass

counted_on : {X : Type 0} (p : X → Bool) (i : ℕ) (xs : List X) → option_map (λ at. at + 1) (position_from p i xs) ≡ position_from p (i + 1) xs
counted_on p i [] = refl
counted_on {X} p i (x ∷ xs) = go (p x) refl (counted_on p (i + 1) xs)
  where
    go : (b : Bool) → p x ≡ b → option_map (λ at. at + 1) (position_from p (i + 1) xs) ≡ position_from p (i + 1 + 1) xs
        → option_map (λ at. at + 1) (position_from p i (x ∷ xs)) ≡ position_from p (i + 1) (x ∷ xs)
    go true is later = rw is refl
    go false is later = rw is later

placed_alike : {X Y : Type 0} (p : Y → Bool) (q : X → Bool) (f : X → Y) → ((x : X) → p (f x) ≡ q x) → (i : ℕ) (xs : List X) → position_from p i (map f xs) ≡ position_from q i xs
placed_alike p q f same i [] = refl
placed_alike p q f same i (x ∷ xs) = rw (same x, placed_alike p q f same (i + 1) xs) refl

pub numbered_alike : {X Y : Type 0} (p : Y → Bool) (q : X → Bool) (f : X → Y) → ((x : X) → p (f x) ≡ q x) → (xs : List X) → option_map (λ at. at + 1) (position p (map f xs)) ≡ position_from q 1 xs
numbered_alike p q f same xs = ap (option_map (λ at. at + 1)) (position_from-zero p (map f xs)) ∙ counted_on p 0 (map f xs) ∙ placed_alike p q f same 1 xs

pub rowids_rise : (rows : List Row) → AreNumbered rows → IsRising value_cmp rowid (by_rowid rows)
rowids_rise rows are = told_rising value_cmp_total rowid rows are.apart

pub has_by_rowid : (rows : List Row) (r : Row) → Has rows r → Has (by_rowid rows) r
has_by_rowid rows r h = (told_alike value_cmp_total rowid rows).back r h

pub by_rowid_has : (rows : List Row) (r : Row) → Has (by_rowid rows) r → Has rows r
by_rowid_has rows r h = (told_alike value_cmp_total rowid rows).there r h

-- where no row fails, each passes
pub none_fails : (test : Row → Bool) (rows : List Row) → position_from (λ row. not (test row)) 1 (by_rowid rows) ≡ None → (r : Row) → Has rows r → not (test r) ≡ false
none_fails test rows none r h = none_placed (λ row. not (test row)) (by_rowid rows) 1 r none (has_by_rowid rows r h)

abbrev first : Row → Value
first r = column r 0

-- an answer that is sorted by the rowids shows the rows in their order
pub answered : (shown : Row → Row) (rows answer : List Row) → AreListed shown rows answer → ((r : Row) → column (shown r) 0 ≡ rowid r) → AreNumbered rows → answer ≡ map shown (by_rowid rows)
answered shown rows answer listed rowid_is are =
    sym (told_same value_cmp_total first (map shown rows) answer shown_apart answer_rising (record {
      there = λ x h. has_permuted answer (map shown rows) x (IsPermutation-sym (map shown rows) answer listed.same) h;
      back = λ x h. has_permuted (map shown rows) answer x listed.same h;
    })) ∙ told_same value_cmp_total first (map shown rows) (map shown (by_rowid rows)) shown_apart ordered_rising (record {
      there = λ x h. let from = has_mapped shown rows x h in subst (Has (map shown (by_rowid rows))) (sym from.2) (mapped_has shown (by_rowid rows) from.0 (has_by_rowid rows from.0 from.1));
      back = λ x h. let from = has_mapped shown (by_rowid rows) x h in subst (Has (map shown rows)) (sym from.2) (mapped_has shown rows from.0 (by_rowid_has rows from.0 from.1));
    })
  where
    shown_apart : AreApart value_cmp first (map shown rows)
    shown_apart = ascending-map (λ a b. is_eq (value_cmp (first a) (first b)) ≡ false) shown rows
        (ascending_weaker (λ a b. is_eq (value_cmp (rowid a) (rowid b)) ≡ false) (λ a b. is_eq (value_cmp (first (shown a)) (first (shown b))) ≡ false) (λ a b other. rw (rowid_is a, rowid_is b) other) rows are.apart)

    answer_rising : IsRising value_cmp first answer
    answer_rising = rising_from_next value_cmp_total first answer
        (rises_sorted value_cmp_total first answer listed.sorted (apart_permuted value_cmp_total first answer (map shown rows) (IsPermutation-sym (map shown rows) answer listed.same) shown_apart))

    ordered_rising : IsRising value_cmp first (map shown (by_rowid rows))
    ordered_rising = ascending-map (λ a b. value_cmp (first a) (first b) ≡ Less) shown (by_rowid rows)
        (ascending_weaker (λ a b. value_cmp (rowid a) (rowid b) ≡ Less) (λ a b. value_cmp (first (shown a)) (first (shown b)) ≡ Less) (λ a b below. rw (rowid_is a, rowid_is b) below) (by_rowid rows) (rowids_rise rows are))

-- where keys are ordered as the rowids are, rows in the order of their rowids are told by their keys
pub told_by_rowid : {R K : Type 0} {cmp : K → K → Ordering} {key : R → K} {of : Row → R} {P : Row → Type 0} (keyed : IsKeyed cmp key of P)
    → ((a b : Row) → P a → P b → value_cmp (rowid a) (rowid b) ≡ Less → cmp (key (of a)) (key (of b)) ≡ Less) → (rows : List Row) → AreNumbered rows → AllByRecursion P rows
    → map of (by_rowid rows) ≡ by_key cmp key (map of rows)
told_by_rowid {R} {K} {cmp} {key} {of} {P} keyed below rows are all =
    sym (told_same keyed.total key (map of rows) (map of (by_rowid rows)) (keys_apart keyed rows all are) ordered_rising (record {
      there = λ x h. let from = has_mapped of rows x h in subst (Has (map of (by_rowid rows))) (sym from.2) (mapped_has of (by_rowid rows) from.0 (has_by_rowid rows from.0 from.1));
      back = λ x h. let from = has_mapped of (by_rowid rows) x h in subst (Has (map of rows)) (sym from.2) (mapped_has of rows from.0 (by_rowid_has rows from.0 from.1));
    }))
  where
    good : (r : Row) → Has (by_rowid rows) r → P r
    good r h = all_has P rows r all (by_rowid_has rows r h)

    ordered_rising : IsRising cmp key (map of (by_rowid rows))
    ordered_rising = ascending-map _ of (by_rowid rows) (apart_weaker _ _ (by_rowid rows) (λ a b ha hb low. below a b (good a ha) (good b hb) low) (rowids_rise rows are))
