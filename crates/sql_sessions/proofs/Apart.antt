-- Rows that have keys of their own.
use Rattle.std.proofs.Common.{◌≡◌, inl, inr, Bool, true, false, List, [], ◌∷◌, filter, Ordering, Less, Equal, Greater, refl, sym, ap, ◌∙◌, true≢false}
use Rattle.std.specs.Cmp.{IsTotalOrder}
use Rattle.std.specs.Ordering.{is_eq, ordering_reverse, match_ordering}
use Rattle.std.specs.List.{list_any}
use Rattle.std.proofs.lemmas.Bool.{cases_Bool, or_parts}
use Rattle.sqlite.specs.Order.{Row, value_cmp}
use Rattle.sqlite_value.proofs.OrderLemmas.{value_cmp_total}
use Rattle.sqlite_trees.specs.Tree.{rowid, put_row, IsAscending}
use Rattle.sqlite_trees.specs.View.{is_int}
use Rattle.sqlite_trees.proofs.ListLemmas.{all-filter, ascending-filter}
use Rattle.sqlite_rules.specs.Lists.{Has}
use Rattle.sqlite_rules.specs.Edit.{is_taken}
use Rattle.sqlite_rules.proofs.ListLemmas.{all_has, all_from, some_from}
use Rattle.sqlite_rules.proofs.TableLemmas.{put_has}
use Rattle.sql_base.specs.Ready.{AreApart, AreNumbered}

turn : (o : Ordering) → is_eq (ordering_reverse o) ≡ is_eq o
turn Less = refl
turn Equal = refl
turn Greater = refl

pub none_has : {X : Type 0} (p : X → Bool) (xs : List X) (x : X) → list_any p xs ≡ false → Has xs x → p x ≡ false
none_has p xs x none h = elim (cases_Bool (p x)) [
  | inl passes ↦ absurd (true≢false (sym (some_from p xs x h passes) ∙ none))
  | inr fails ↦ fails
]

module _ {R K : Type 0} {cmp : K → K → Ordering} (total : IsTotalOrder cmp) (key : R → K) where
  pub turned : (a b : K) → is_eq (cmp a b) ≡ is_eq (cmp b a)
  turned a b = ap is_eq (total.antisymm a b) ∙ turn (cmp b a)

  -- two rows of one key are one
  pub apart_same : (rows : List R) (a b : R) → AreApart cmp key rows → Has rows a → Has rows b → is_eq (cmp (key a) (key b)) ≡ true → a ≡ b
  apart_same [] a b up h k tie = absurd h
  apart_same (r ∷ rows) a b up (inl h) (inl k) tie = h ∙ sym k
  apart_same (r ∷ rows) a b up (inl h) (inr k) tie = absurd (true≢false (sym tie ∙ ap (λ x. is_eq (cmp (key x) (key b))) h ∙ all_has _ rows b up.0 k))
  apart_same (r ∷ rows) a b up (inr h) (inl k) tie =
      absurd (true≢false (sym tie ∙ turned (key a) (key b) ∙ ap (λ x. is_eq (cmp (key x) (key a))) k ∙ all_has _ rows a up.0 h))
  apart_same (r ∷ rows) a b up (inr h) (inr k) tie = apart_same rows a b up.1 h k tie

-- what follows for two of the rows follows for each two
pub apart_weaker : {X : Type 0} (P Q : X → X → Type 0) (xs : List X) → ((a b : X) → Has xs a → Has xs b → P a b → Q a b) → IsAscending P xs → IsAscending Q xs
apart_weaker P Q [] each up = tt
apart_weaker P Q (x ∷ xs) each up =
    (all_from (Q x) xs (λ b h. each x b (inl refl) (inr h) (all_has (P x) xs b up.0 h)), apart_weaker P Q xs (λ a b h k. each a b (inr h) (inr k)) up.1)

abbrev Put : Ordering → Row → Row → List Row → List Row
Put o new r rows = match_ordering o (r ∷ put_row new rows) (new ∷ rows) (new ∷ r ∷ rows)

-- a row that is put at a free rowid
put_apart : (new : Row) (rows : List Row) → is_taken rows new ≡ false → AreApart value_cmp rowid rows → AreApart value_cmp rowid (put_row new rows)
put_apart new [] free up = (tt, tt)
put_apart new (r ∷ rows) free up =
    let parts = or_parts _ _ free in
    go (value_cmp (rowid r) (rowid new)) refl parts.0 parts.1 (put_apart new rows parts.1 up.1)
  where
    go : (o : Ordering) → value_cmp (rowid r) (rowid new) ≡ o → is_eq (value_cmp (rowid r) (rowid new)) ≡ false → is_taken rows new ≡ false
        → AreApart value_cmp rowid (put_row new rows) → AreApart value_cmp rowid (Put o new r rows)
    go Less e other none later = (
      all_from _ (put_row new rows) (λ x h. elim (put_has new rows x h) [
        | inl same ↦ ap (λ y. is_eq (value_cmp (rowid r) (rowid y))) same ∙ other
        | inr was ↦ all_has _ rows x up.0 was
      ]),
      later,
    )
    go Equal e other none later = absurd (true≢false (sym (ap is_eq e) ∙ other))
    go Greater e other none later = (
      (
        turned value_cmp_total rowid (rowid new) (rowid r) ∙ other,
        all_from _ rows (λ x h. turned value_cmp_total rowid (rowid new) (rowid x) ∙ none_has (λ y. is_eq (value_cmp (rowid y) (rowid new))) rows x none h),
      ),
      up,
    )

pub put_numbered : (new : Row) (rows : List Row) → is_int (rowid new) ≡ true → is_taken rows new ≡ false → AreNumbered rows → AreNumbered (put_row new rows)
put_numbered new rows keyed free are = record {
  numbers = all_from _ (put_row new rows) (λ x h. elim (put_has new rows x h) [
    | inl same ↦ ap (λ y. is_int (rowid y)) same ∙ keyed
    | inr was ↦ all_has _ rows x are.numbers was
  ]);
  apart = put_apart new rows free are.apart;
}

pub kept_numbered : (p : Row → Bool) (rows : List Row) → AreNumbered rows → AreNumbered (filter p rows)
kept_numbered p rows are = record { numbers = all-filter _ p rows are.numbers; apart = ascending-filter _ p rows are.apart }
