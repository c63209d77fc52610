-- What is known of a table whose rows were read.
use Rattle.std.proofs.Common.{◌≡◌, ◌<◌, ◌+◌, ℕ, ℤ, zero, suc, true, false, List, [], ◌∷◌, map, length, get_or, Ordering, refl, sym, ap, subst, ◌∙◌, arith, IsPermutation}
use Rattle.std.specs.Cmp.{IsTotalOrder}
use Rattle.std.specs.Ordering.{is_eq, is_lt, int_cmp}
use Rattle.std.specs.Prelude.{IsSortedByKey}
use Rattle.std.specs.List.{AllByRecursion}
use Rattle.std.proofs.lemmas.Cmp.{int_cmp_total}
use Rattle.std.proofs.lemmas.List.Sorted.{IsPermutation-sym, IsPermutation-map}
use Rattle.sqlite.specs.declared.types.Value.TheVariants.{Int}
use Rattle.sqlite.specs.Order.{Row, column, value_cmp}
use Rattle.sqlite_value.proofs.OrderLemmas.{value_cmp_total, value_cmp-Int}
use Rattle.sqlite_trees.specs.Tree.{rowid}
use Rattle.sqlite_trees.specs.View.{is_int}
use Rattle.sqlite_trees.proofs.ListLemmas.{ascending-map, ascending_from_map, ascending_weaker, all_of, all-map, all_from_map, all-permutation}
use Rattle.sqlite_rules.specs.Edit.{id_in}
use Rattle.sqlite_rules.proofs.TableLemmas.{int_is}
use Rattle.sql_base.specs.Ready.{AreApart, AreNumbered}
use Rattle.sql_base.specs.Steps.{AreListed}
use Rattle.sql_base.specs.Told.{by_key}
use Rattle.sql_base.proofs.QueryLemmas.{has_permuted}
use Rattle.sql_base.proofs.TellLemmas.{IsRising, told_same}
use Rattle.sql_loads.specs.Fits.{HoldsNumber}
use Rattle.sql_loads.specs.Read.{HaveRowids, IsRead, Rises}
use Rattle.sql_loads.proofs.Rising.{apart_permuted, apart_from_rising, rising_from_next, rises_sorted}

-- ---- rowids

numbers_hold : (at : ℕ) (ids : List ℤ) (rows : List Row) → AllByRecursion (λ row. at < length row) rows → map Int ids ≡ map (λ row. column row at) rows
    → AllByRecursion (λ row. (at < length row) × HoldsNumber (column row at)) rows
numbers_hold at ids [] wide same = tt
numbers_hold at [] (r ∷ rows) wide same = absurd cc
numbers_hold at (n ∷ ids) (r ∷ rows) wide same = let first : column r at ≡ Int n = cc in ((wide.0, (n, first)), numbers_hold at ids rows wide.1 cc)

pub rowids_hold : (at : ℕ) (rows : List Row) → AllByRecursion (λ row. at < length row) rows → HaveRowids at rows → AllByRecursion (λ row. (at < length row) × HoldsNumber (column row at)) rows
rowids_hold at rows wide have = numbers_hold at have.rowids rows wide have.numbers

pub same_numbers : (ms ns : List ℤ) → map Int ms ≡ map Int ns → ms ≡ ns
same_numbers [] [] same = refl
same_numbers [] (n ∷ ns) same = absurd cc
same_numbers (m ∷ ms) [] same = absurd cc
same_numbers (m ∷ ms) (n ∷ ns) same =
    let first : Int m ≡ Int n = cc in
    let later : map Int ms ≡ map Int ns = cc in
    let one : m ≡ n = cc in
    rw (one, same_numbers ms ns later) refl

ints_back : (values : List _) → AllByRecursion (λ v. is_int v ≡ true) values → map Int (map id_in values) ≡ values
ints_back [] all = refl
ints_back (v ∷ values) all = rw (← int_is v all.0, ints_back values all.1) refl

-- ---- lists

pub maps_same : {X Y Z : Type 0} (f : Y → Z) (g : X → Y) (h : X → Z) → ((x : X) → f (g x) ≡ h x) → (xs : List X) → map f (map g xs) ≡ map h xs
maps_same f g h same [] = refl
maps_same f g h same (x ∷ xs) = rw (same x, maps_same f g h same xs) refl

got_mapped : {X Y : Type 0} (f : X → Y) (xs : List X) (k : ℕ) (d : Y) (e : X) → k < length xs → get_or (map f xs) k d ≡ f (get_or xs k e)
got_mapped f [] k d e within = absurd (omega arith)
got_mapped f (x ∷ xs) zero d e within = refl
got_mapped f (x ∷ xs) (suc k) d e within = got_mapped f xs k d e (omega arith)

all_got : {X : Type 0} (P : X → Type 0) (xs : List X) → AllByRecursion P xs → (k : ℕ) (e : X) → k < length xs → P (get_or xs k e)
all_got P [] all k e within = absurd (omega arith)
all_got P (x ∷ xs) all zero e within = all.0
all_got P (x ∷ xs) all (suc k) e within = all_got P xs all.1 k e (omega arith)

mapped_length : {X Y : Type 0} (f : X → Y) (xs : List X) → length (map f xs) ≡ length xs
mapped_length f [] = refl
mapped_length f (x ∷ xs) = ap suc (mapped_length f xs)

-- ---- a table whose rows are listed

module _ (shown : Row → Row) (rows answer : List Row) (listed : AreListed shown rows answer) where
  pub fits_answer : (Fits : Row → Type 0) → AllByRecursion (λ r. Fits (shown r)) rows → AllByRecursion Fits answer
  fits_answer Fits all = all-permutation Fits (map shown rows) answer listed.same (all-map Fits shown rows all)

  pub fits_rows : (Fits : Row → Type 0) → AllByRecursion Fits answer → AllByRecursion (λ r. Fits (shown r)) rows
  fits_rows Fits all = all_from_map Fits shown rows (all-permutation Fits answer (map shown rows) (IsPermutation-sym (map shown rows) answer listed.same) all)

  module _ (at : ℕ) (rowid_is : (r : Row) → column (shown r) at ≡ rowid r) where
    at_rowids : IsPermutation (map rowid rows) (map (λ r. column r at) answer)
    at_rowids = subst (λ l. IsPermutation l (map (λ r. column r at) answer)) (maps_same (λ r. column r at) shown rowid rowid_is rows) (IsPermutation-map (λ r. column r at) (map shown rows) answer listed.same)

    pub rows_numbered : HaveRowids at answer → AreNumbered rows
    rows_numbered have =
        let same : IsPermutation (map rowid rows) (map Int have.rowids) = subst (IsPermutation (map rowid rows)) (sym have.numbers) at_rowids in
        record {
          numbers = all_from_map (λ v. is_int v ≡ true) rowid rows
              (all-permutation (λ v. is_int v ≡ true) (map Int have.rowids) (map rowid rows) (IsPermutation-sym (map rowid rows) (map Int have.rowids) same)
              (all-map (λ v. is_int v ≡ true) Int have.rowids (all_of _ (λ n. refl) have.rowids)));
          apart = ascending_from_map (λ a b. is_eq (value_cmp a b) ≡ false) rowid rows
              (apart_permuted value_cmp_total (λ v. v) (map rowid rows) (map Int have.rowids) same
              (ascending-map (λ a b. is_eq (value_cmp a b) ≡ false) Int have.rowids (ascending_weaker _ _ (λ a b other. ap is_eq (value_cmp-Int a b) ∙ other) have.rowids have.apart)));
        }

    -- rows with rowids of their own are answered with these
    pub rowids_answered : AreNumbered rows → HaveRowids at answer
    rowids_answered are =
        let values = map (λ r. column r at) answer in
        let back = IsPermutation-sym (map rowid rows) values at_rowids in
        let ints : AllByRecursion (λ v. is_int v ≡ true) values = all-permutation (λ v. is_int v ≡ true) (map rowid rows) values at_rowids (all-map (λ v. is_int v ≡ true) rowid rows are.numbers) in
        let apart : AreApart value_cmp (λ v. v) values = apart_permuted value_cmp_total (λ v. v) values (map rowid rows) back (ascending-map (λ a b. is_eq (value_cmp a b) ≡ false) rowid rows are.apart) in
        let numbers = ints_back values ints in
        record {
          rowids = map id_in values;
          numbers = numbers;
          apart = ascending_weaker _ _ (λ a b other. sym (ap is_eq (value_cmp-Int a b)) ∙ other) (map id_in values)
              (ascending_from_map (λ a b. is_eq (value_cmp a b) ≡ false) Int (map id_in values) (subst (AreApart value_cmp (λ v. v)) (sym numbers) apart));
        }

  module _ {R K : Type 0} {cmp : K → K → Ordering} (total : IsTotalOrder cmp) (key : R → K) (of : Row → R) (told_by : Row → R) (told_is : (r : Row) → told_by (shown r) ≡ of r) (Fits : Row → Type 0) where
    same : IsPermutation (map of rows) (map told_by answer)
    same = subst (λ l. IsPermutation l (map told_by answer)) (maps_same told_by shown of told_is rows) (IsPermutation-map told_by (map shown rows) answer listed.same)

    module _ (told : List R) (read : IsRead cmp key told_by Fits answer told) where
      told_same_rows : IsPermutation (map of rows) told
      told_same_rows = subst (IsPermutation (map of rows)) (sym read.is) same

      pub rising : IsRising cmp key told
      rising = rising_from_next total key told read.rising

      pub keys_differ : AreApart cmp key (map of rows)
      keys_differ = apart_permuted total key (map of rows) told told_same_rows (apart_from_rising total key told rising)

      pub rows_told : told ≡ by_key cmp key (map of rows)
      rows_told = sym (told_same total key (map of rows) told keys_differ rising (record {
        there = λ x h. has_permuted told (map of rows) x (IsPermutation-sym (map of rows) told told_same_rows) h;
        back = λ x h. has_permuted (map of rows) told x told_same_rows h;
      }))

    -- what is sorted by its first column, which has the key, rises where no key comes twice
    pub answer_rises : ((a b : Row) → Fits a → Fits b → value_cmp (column a 0) (column b 0) ≡ cmp (key (told_by a)) (key (told_by b))) → AllByRecursion Fits answer
        → AreApart cmp key (map of rows) → Rises cmp key (map told_by answer)
    answer_rises order fit apart =
        rises_sorted total key (map told_by answer) sorted (apart_permuted total key (map told_by answer) (map of rows) (IsPermutation-sym (map of rows) (map told_by answer) same) apart)
      where
        sorted : IsSortedByKey key cmp (map told_by answer)
        sorted k d low within =
            let long : k + 1 < length answer = subst (λ n. k + 1 < n) (mapped_length told_by answer) within in
            let first = get_or answer k [] in
            let next = get_or answer (k + 1) [] in
            let in_order : is_lt (value_cmp (column next 0) (column first 0)) ≡ false = listed.sorted k [] low long in
            rw (got_mapped told_by answer k d [] (omega (arith, long)), got_mapped told_by answer (k + 1) d [] long)
            (ap is_lt (sym (order next first (all_got Fits answer fit (k + 1) [] long) (all_got Fits answer fit k [] (omega (arith, long))))) ∙ in_order)

-- the first column has the rowid, which is the key
pub rowids_are_keys : {R : Type 0} (key : R → ℤ) (told_by : Row → R) (Fits : Row → Type 0) → ((r : Row) → Fits r → column r 0 ≡ Int (key (told_by r))) → (answer : List Row) (told : List R)
    → IsRead int_cmp key told_by Fits answer told → HaveRowids 0 answer
rowids_are_keys key told_by Fits key_is answer told read = record {
  rowids = map key told;
  numbers = ap (λ l. map Int (map key l)) read.is ∙ numbers answer read.fit;
  apart = ascending-map _ key told (apart_from_rising int_cmp_total key told (rising_from_next int_cmp_total key told read.rising));
}
  where
    numbers : (rs : List Row) → AllByRecursion Fits rs → map Int (map key (map told_by rs)) ≡ map (λ r. column r 0) rs
    numbers [] fit = refl
    numbers (r ∷ rs) fit = rw (key_is r fit.0, numbers rs fit.1) refl
