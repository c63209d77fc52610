-- What the change of a row by its rowid does to what a table tells.
use Rattle.std.proofs.Common.{◌≡◌, inl, inr, ℤ, false, List, map, Ordering, sym, ap, subst, ◌∙◌}
use Rattle.std.specs.Cmp.{IsTotalOrder}
use Rattle.std.specs.Ordering.{is_eq}
use Rattle.std.specs.List.{AllByRecursion}
use Rattle.sqlite.specs.declared.types.Value.TheVariants.{Int}
use Rattle.sqlite.specs.Order.{Row, value_cmp}
use Rattle.sqlite_trees.specs.Tree.{rowid, has_rowid, without_rowid, put_row}
use Rattle.sqlite_rules.specs.Lists.{Has}
use Rattle.sqlite_rules.proofs.ListLemmas.{all_has, all_from}
use Rattle.sqlite_rules.proofs.ProbeLemmas.{has_mapped, mapped_has}
use Rattle.keeper_rows.specs.Keys.{put, dropped}
use Rattle.sql_base.specs.Told.{by_key}
use Rattle.sql_base.specs.Ready.{AreApart, AreNumbered}
use Rattle.sql_base.proofs.TellLemmas.{ArePut, AreLeft, told_put, told_drop}
use Rattle.sql_accounts.proofs.NumberLemmas.{left_without, still_there, has_put, put_new, put_old, map_apart, numbered_without, numbered_put}

-- Each row tells a row of a table, whose key stands for the rowid, where the row is one of these.
pub record IsKeyed {R K : Type 0} (cmp : K → K → Ordering) (key : R → K) (row_of : Row → R) (P : Row → Type 0) : Type 0 where
  pub total : IsTotalOrder cmp
  pub same : (a b : Row) → P a → P b → is_eq (cmp (key (row_of a)) (key (row_of b))) ≡ is_eq (value_cmp (rowid a) (rowid b))

module _ {R K : Type 0} {cmp : K → K → Ordering} {key : R → K} {row_of : Row → R} {P : Row → Type 0} (keyed : IsKeyed cmp key row_of P) where
  pub keys_apart : (rows : List Row) → AllByRecursion P rows → AreNumbered rows → AreApart cmp key (map row_of rows)
  keys_apart rows all n =
      map_apart (λ a b. is_eq (value_cmp (rowid a) (rowid b)) ≡ false) (λ a b. is_eq (cmp (key a) (key b)) ≡ false) row_of rows
      (λ a b g h apart. keyed.same a b (all_has P rows a all g) (all_has P rows b all h) ∙ apart) n.apart

  module _ (id : ℤ) (k : K) (at : (r : Row) → P r → is_eq (cmp (key (row_of r)) k) ≡ has_rowid id r) (old : List Row) (all : AllByRecursion P old) (n : AreNumbered old) where
    pub all_without : AllByRecursion P (without_rowid id old)
    all_without = all_from P (without_rowid id old) (λ r h. all_has P old r all (left_without id old r h).0)

    are_left : AreLeft {cmp = cmp} keyed.total key k (map row_of old) (map row_of (without_rowid id old))
    are_left = record {
      there = λ x h.
          let r = has_mapped row_of (without_rowid id old) x h in
          let left = left_without id old r.0 r.1 in
          (subst (Has (map row_of old)) (sym r.2) (mapped_has row_of old r.0 left.0), ap (λ y. is_eq (cmp (key y) k)) r.2 ∙ at r.0 (all_has P old r.0 all left.0) ∙ left.1);
      back = λ x h other.
          let r = has_mapped row_of old x h in
          let free : has_rowid id r.0 ≡ false = sym (at r.0 (all_has P old r.0 all r.1)) ∙ ap (λ y. is_eq (cmp (key y) k)) (sym r.2) ∙ other in
          subst (Has (map row_of (without_rowid id old))) (sym r.2) (mapped_has row_of (without_rowid id old) r.0 (still_there id old r.0 r.1 free));
    }

    pub told_without : by_key cmp key (map row_of (without_rowid id old)) ≡ dropped cmp key k (by_key cmp key (map row_of old))
    told_without = told_drop keyed.total key k (map row_of old) (map row_of (without_rowid id old)) (keys_apart old all n) (keys_apart (without_rowid id old) all_without (numbered_without id old n)) are_left

    module _ (s : Row) (is : rowid s ≡ Int id) (good : P s) (row : R) (tells : row_of s ≡ row) (own : key row ≡ k) where
      abbrev new : List Row
      new = put_row s (without_rowid id old)

      pub all_put : AllByRecursion P new
      all_put = all_from P new (λ r h. elim (has_put s (without_rowid id old) r h) [ inl same ↦ subst P (sym same) good | inr g ↦ all_has P (without_rowid id old) r all_without g ])

      are_put : ArePut {cmp = cmp} keyed.total key row (map row_of old) (map row_of new)
      are_put = record {
        there = λ x h.
            let r = has_mapped row_of new x h in
            elim (has_put s (without_rowid id old) r.0 r.1) [
              | inl same ↦ inl (r.2 ∙ ap row_of same ∙ tells)
              | inr g ↦ let left = left_without id old r.0 g in
                  inr (
                    subst (Has (map row_of old)) (sym r.2) (mapped_has row_of old r.0 left.0),
                    ap (λ y. is_eq (cmp (key y) (key row))) r.2 ∙ ap (λ z. is_eq (cmp (key (row_of r.0)) z)) own ∙ at r.0 (all_has P old r.0 all left.0) ∙ left.1,
                  )
            ];
        has = subst (Has (map row_of new)) tells (mapped_has row_of new s (put_new s (without_rowid id old)));
        back = λ x h other.
            let r = has_mapped row_of old x h in
            let free : has_rowid id r.0 ≡ false = sym (at r.0 (all_has P old r.0 all r.1)) ∙ ap (λ z. is_eq (cmp (key (row_of r.0)) z)) (sym own) ∙ ap (λ y. is_eq (cmp (key y) (key row))) (sym r.2) ∙ other in
            let still = put_old s (without_rowid id old) r.0 (λ y h. ap (λ v. is_eq (value_cmp (rowid y) v)) is ∙ (left_without id old y h).1) (still_there id old r.0 r.1 free) in
            subst (Has (map row_of new)) (sym r.2) (mapped_has row_of new r.0 still);
      }

      pub told_new : by_key cmp key (map row_of new) ≡ put cmp key row (by_key cmp key (map row_of old))
      told_new = told_put keyed.total key row (map row_of old) (map row_of new) (keys_apart old all n) (keys_apart new all_put (numbered_put id s old is n)) are_put
