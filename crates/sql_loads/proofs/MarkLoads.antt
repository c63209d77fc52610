-- What is read of the marks.
use Rattle.std.proofs.Common.{◌≡◌, ◌+◌, pos, ℤ, Bool, true, false, not, None, List, map, Less, refl, sym, ap, ◌∙◌, true≢false, arith}
use Rattle.std.specs.Prelude.{option_map}
use Rattle.std.specs.Ordering.{int_cmp, is_eq, nat_cmp}
use Rattle.std.specs.List.{AllByRecursion, position}
use Rattle.std.proofs.lemmas.Bool.Decides.{nat_tests}
use Rattle.std.proofs.lemmas.Cmp.{tied_itself}
use Rattle.std.proofs.lemmas.Int.{ints}
use Rattle.keeper_rows.specs.Applied.{mark_key}
use Rattle.sqlite.specs.declared.types.Value.TheVariants.{Int}
use Rattle.sqlite.specs.Order.{Row, column, value_cmp}
use Rattle.sqlite_value.proofs.OrderLemmas.{value_cmp_total}
use Rattle.sqlite_trees.specs.Tree.{rowid}
use Rattle.sqlite_rules.proofs.ListLemmas.{all_has, all_from}
use Rattle.sqlite_rules.proofs.TableLemmas.{int_is}
use Rattle.sql_base.specs.Ready.{AreNumbered}
use Rattle.sql_base.specs.Steps.{AreListed}
use Rattle.sql_base.specs.Told.{by_key, mark_of, number_at, number_of}
use Rattle.sql_accounts.specs.Shown.{mark_shown}
use Rattle.sql_accounts.proofs.MarkLemmas.{keyed}
use Rattle.sql_loads.specs.Fits.{MarkFits}
use Rattle.sql_loads.specs.Loads.{by_rowid, first_failing, has_mark_key, HasMarkKey}
use Rattle.sql_loads.specs.Read.{IsRead}
use Rattle.sql_loads.specs.Values.{has_key_one, mark_in, mark_row}
use Rattle.sql_loads.specs.declared.stored.StoredMark.{StoredMark}
use Rattle.sql_loads.proofs.Loads.{maps_same, rows_numbered, rowids_are_keys}
use Rattle.sql_loads.proofs.Rowids.{answered, none_fails, numbered_alike, told_by_rowid}

abbrev one : StoredMark → ℤ
one stored = stored.one

untrue : (b : Bool) → not b ≡ false → b ≡ true
untrue true h = refl
untrue false h = absurd (true≢false h)

is_one : (n : ℤ) → is_eq (int_cmp n (pos 1)) ≡ true → n ≡ pos 1
is_one n is = grind (arith, ints, nat_tests)

module _ (rows answer : List Row) (stored : List StoredMark) (listed : AreListed mark_shown rows answer) (read : IsRead int_cmp one mark_in MarkFits answer stored) where
  key_is : (r : Row) → MarkFits r → column r 0 ≡ Int (one (mark_in r))
  key_is r fit = let is = fit.one.1 in rw is refl

  pub marks_numbered : AreNumbered rows
  marks_numbered = rows_numbered mark_shown rows answer listed 0 (λ r. refl) (rowids_are_keys one mark_in MarkFits key_is answer stored read)

  stored_is : stored ≡ map (λ r. mark_in (mark_shown r)) (by_rowid rows)
  stored_is = read.is ∙ ap (map mark_in) (answered mark_shown rows answer listed (λ r. refl) marks_numbered) ∙ maps_same mark_in mark_shown (λ r. mark_in (mark_shown r)) (λ r. refl) (by_rowid rows)

  pub marks_rows : map mark_row stored ≡ map mark_of (by_rowid rows)
  marks_rows = ap (map mark_row) stored_is ∙ maps_same mark_row (λ r. mark_in (mark_shown r)) mark_of (λ r. refl) (by_rowid rows)

  pub marks_unkeyed : option_map (λ at. at + 1) (position (λ mark. not (has_key_one mark)) stored) ≡ first_failing has_mark_key (by_rowid rows)
  marks_unkeyed = ap (λ l. option_map (λ at. at + 1) (position (λ mark. not (has_key_one mark)) l)) stored_is
      ∙ numbered_alike (λ mark. not (has_key_one mark)) (λ row. not (has_mark_key row)) (λ r. mark_in (mark_shown r)) (λ r. refl) (by_rowid rows)

  never_below : (a b : Row) → HasMarkKey a → HasMarkKey b → value_cmp (rowid a) (rowid b) ≡ Less → ⊥
  never_below a b m n low = let tied = tied_itself value_cmp_total (Int (pos 1)) in let e = sym tied ∙ (rw (m, n) at low) in cc

  pub marks_told : AllByRecursion HasMarkKey rows → map mark_row stored ≡ by_key nat_cmp mark_key (map mark_of rows)
  marks_told all = marks_rows ∙ told_by_rowid keyed (λ a b m n low. absurd (never_below a b m n low)) rows marks_numbered all

  pub marks_keyed : first_failing has_mark_key (by_rowid rows) ≡ None → AllByRecursion HasMarkKey rows
  marks_keyed none = all_from HasMarkKey rows (λ r h.
      let number = int_is (rowid r) (all_has _ rows r marks_numbered.numbers h) in
      let passes : has_mark_key r ≡ true = untrue _ (none_fails has_mark_key rows none r h) in
      number ∙ ap Int (sym (ap number_of number) ∙ is_one (number_at r 0) passes))
