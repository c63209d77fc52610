-- What a change of one row does to the rows of a table whose key is the text in its first column.
use Rattle.std.proofs.Common.{◌≡◌, ◌⊎◌, inl, inr, ℕ, ◌<◌, ℤ, Bool, true, false, not, List, [], ◌∷◌, length, Ordering, Less, Equal, Greater, refl, sym, ap, ◌∙◌, arith, true≢false}
use Rattle.std.specs.Ordering.{is_eq, int_cmp}
use Rattle.std.specs.List.{AllByRecursion, list_any}
use Rattle.std.proofs.lemmas.Bool.{cases_Bool}
use Rattle.std.proofs.lemmas.Bool.Decides.{nat_tests}
use Rattle.std.proofs.lemmas.Cmp.{tied_itself, tied_back}
use Rattle.std.proofs.lemmas.Int.{ints}
use Rattle.sqlite.specs.declared.types.Value.{Value}
use Rattle.sqlite.specs.declared.types.Value.TheVariants.{Int, Text}
use Rattle.sqlite.specs.Order.{Row, column, value_cmp}
use Rattle.sqlite_value.proofs.OrderLemmas.{value_cmp_total, value_cmp-Int}
use Rattle.sqlite_trees.specs.Tree.{rowid, has_rowid, put_row, without_rowid}
use Rattle.sqlite_trees.specs.View.{is_int}
use Rattle.sqlite_rules.specs.Lists.{Has}
use Rattle.sqlite_rules.specs.Edit.{id_in, is_taken, without_all, put_all}
use Rattle.sqlite_rules.proofs.ListLemmas.{has_filtered, has_kept, some_has}
use Rattle.sqlite_rules.proofs.TableLemmas.{int_is, has_put, put_has, put_all_keeps}
use Rattle.sql_base.specs.Ready.{AreApart, AreNumbered}
use Rattle.sql_sessions.proofs.Apart.{apart_same, put_numbered, kept_numbered}

-- the first column, which is the key
abbrev pub key : Row → Value
key row = column row 1

abbrev pub has_text : List ℕ → Row → Bool
has_text k row = is_eq (value_cmp (key row) (Text k))

-- the row has come in, and of the others those of another key are left
pub record HasPut (k : List ℕ) (rest : Row) (old new : List Row) : Type 0 where
  pub number : ℤ
  pub added : Has new (Int number ∷ Text k ∷ rest)
  pub only : (x : Row) → Has new x → (x ≡ Int number ∷ Text k ∷ rest) ⊎ (Has old x × (has_text k x ≡ false))
  pub kept : (x : Row) → Has old x → has_text k x ≡ false → Has new x
  pub numbered : AreNumbered new

-- the rows of another key are left
pub record HasDropped (k : List ℕ) (old new : List Row) : Type 0 where
  pub only : (x : Row) → Has new x → Has old x × (has_text k x ≡ false)
  pub kept : (x : Row) → Has old x → has_text k x ≡ false → Has new x
  pub numbered : AreNumbered new

pub number_is : (id : ℤ) (r : Row) → is_int (rowid r) ≡ true → has_rowid id r ≡ true → rowid r ≡ Int id
number_is id r keyed has =
    let v = int_is (rowid r) keyed in
    let n = id_in (rowid r) in
    let same : is_eq (int_cmp n id) ≡ true = ap is_eq (sym (value_cmp-Int n id)) ∙ ap (λ w. is_eq (value_cmp w (Int id))) (sym v) ∙ has in
    v ∙ ap Int (grind (arith, ints, nat_tests))

pub number_has : (id : ℤ) (r : Row) → rowid r ≡ Int id → has_rowid id r ≡ true
number_has id r is = ap (λ v. is_eq (value_cmp v (Int id))) is ∙ ap is_eq (tied_itself value_cmp_total (Int id))

-- ---- taking a number out, and putting a row in, several times

pub spares_all : (id : ℤ) (rows : List Row) → ((r : Row) → Has rows r → has_rowid id r ≡ false) → without_rowid id rows ≡ rows
spares_all id [] none = refl
spares_all id (r ∷ rows) none = rw (none r (inl refl)) (ap (λ l. r ∷ l) (spares_all id rows (λ x h. none x (inr h))))

pub left_without : (id : ℤ) (rows : List Row) (r : Row) → Has (without_rowid id rows) r → has_rowid id r ≡ false
left_without id rows r h = let kept = (has_filtered (λ x. not (has_rowid id x)) rows r h).1 in elim (cases_Bool (has_rowid id r)) [ inl e ↦ absurd (true≢false (sym (rw e at kept))) | inr e ↦ e ]

pub without_same : (id : ℤ) (ids : List ℤ) (rows : List Row) → AllByRecursion (λ n. n ≡ id) ids → ((r : Row) → Has rows r → has_rowid id r ≡ true → 0 < length ids)
    → without_all rows ids ≡ without_rowid id rows
without_same id [] rows all some = sym (spares_all id rows (λ r h. elim (cases_Bool (has_rowid id r)) [ inl e ↦ absurd (let no : 0 < 0 = some r h e in omega arith) | inr e ↦ e ]))
without_same id (n ∷ ids) rows all some =
    let first = all.0 in
    rw first (without_same id ids (without_rowid id rows) all.1 (λ r h e. absurd (true≢false (sym e ∙ left_without id rows r h))) ∙ spares_all id (without_rowid id rows) (λ r h. left_without id rows r h))

put_later : (s r : Row) (rows : List Row) → put_row s (put_row s rows) ≡ put_row s rows → (o : Ordering) → value_cmp (rowid r) (rowid s) ≡ o → put_row s (put_row s (r ∷ rows)) ≡ put_row s (r ∷ rows)
put_later s r rows later Less e = rw (e, e) (ap (λ l. r ∷ l) later)
put_later s r rows later Equal e = rw (e, tied_itself value_cmp_total (rowid s)) refl
put_later s r rows later Greater e = rw (e, tied_itself value_cmp_total (rowid s)) refl

put_again : (s : Row) (rows : List Row) → put_row s (put_row s rows) ≡ put_row s rows
put_again s [] = rw (tied_itself value_cmp_total (rowid s)) refl
put_again s (r ∷ rows) = put_later s r rows (put_again s rows) (value_cmp (rowid r) (rowid s)) refl

pub put_same : (s : Row) (news rows : List Row) → AllByRecursion (λ r. r ≡ s) news → 0 < length news → put_all rows news ≡ put_row s rows
put_same s [] rows all some = absurd (omega arith)
put_same s (n ∷ []) rows all some = ap (λ x. put_row x rows) all.0
put_same s (n ∷ m ∷ news) rows all some = ap (λ x. put_all (put_row x rows) (m ∷ news)) all.0 ∙ put_same s (m ∷ news) (put_row s rows) all.1 (omega arith) ∙ put_again s rows

pub equal_is : (o : Ordering) → is_eq o ≡ true → o ≡ Equal
equal_is Less h = absurd (true≢false (sym h))
equal_is Equal h = refl
equal_is Greater h = absurd (true≢false (sym h))

pub joins : (a b c : Value) → value_cmp a c ≡ Equal → value_cmp b c ≡ Equal → value_cmp a b ≡ Equal
joins a b c p q = value_cmp_total.congr a c b p ∙ tied_back value_cmp_total b c q

never_taken : (rows : List Row) (id : ℤ) (rest : Row) → ((r : Row) → Has rows r → has_rowid id r ≡ false) → is_taken rows (Int id ∷ rest) ≡ false
never_taken rows id rest none = elim (cases_Bool (list_any (has_rowid id) rows)) [
  | inl some ↦ let found = some_has (has_rowid id) rows some in absurd (true≢false (sym found.2 ∙ none found.0 found.1))
  | inr free ↦ free
]

-- ---- what is left

module _ (k : List ℕ) (rest : Row) (rows : List Row) (are : AreNumbered rows) where
  -- no row had the key
  pub put_fresh : (n : ℤ) → ((r : Row) → Has rows r → has_text k r ≡ false) → is_taken rows (Int n ∷ Text k ∷ rest) ≡ false → HasPut k rest rows (put_row (Int n ∷ Text k ∷ rest) rows)
  put_fresh n free fresh =
      let new : Row = Int n ∷ Text k ∷ rest in
      record {
        number = n;
        added = has_put new rows;
        only = λ x h. elim (put_has new rows x h) [ inl same ↦ inl same | inr was ↦ inr (was, free x was) ];
        kept = λ x h other. put_all_keeps (new ∷ []) rows x (rw fresh refl) h;
        numbered = put_numbered new rows refl fresh are;
      }

  module _ (keyed : AreApart value_cmp key rows) (r : Row) (there : Has rows r) (id : ℤ) (is : rowid r ≡ Int id) (has : has_text k r ≡ true) where
    -- two rows with the key are one
    other_key : (x : Row) → Has rows x → has_rowid id x ≡ false → has_text k x ≡ false
    other_key x h other = elim (cases_Bool (has_text k x)) [
      | inl also ↦ absurd (true≢false (sym (number_has id x (ap rowid (tie x h also) ∙ is)) ∙ other))
      | inr no_text ↦ no_text
    ]
      where
        tie : (x : Row) → Has rows x → has_text k x ≡ true → x ≡ r
        tie x h also =
            let left : value_cmp (key x) (Text k) ≡ Equal = equal_is _ also in
            let right : value_cmp (key r) (Text k) ≡ Equal = equal_is _ has in
            apart_same value_cmp_total key rows x r keyed h there (ap is_eq (joins (key x) (key r) (Text k) left right))

    same_key : (x : Row) → Has rows x → has_text k x ≡ false → has_rowid id x ≡ false
    same_key x h other = elim (cases_Bool (has_rowid id x)) [
      | inl also ↦
          let same : x ≡ r = apart_same value_cmp_total rowid rows x r are.apart h there (ap (λ v. is_eq (value_cmp (rowid x) v)) is ∙ also) in
          absurd (true≢false (sym has ∙ ap (has_text k) (sym same) ∙ other))
      | inr apart ↦ apart
    ]

    kept_of : (x : Row) → Has rows x → has_text k x ≡ false → Has (without_rowid id rows) x
    kept_of x h other = has_kept (λ y. not (has_rowid id y)) rows x h (ap not (same_key x h other))

    left_of : (x : Row) → Has (without_rowid id rows) x → Has rows x × (has_text k x ≡ false)
    left_of x h = let was = (has_filtered (λ y. not (has_rowid id y)) rows x h).0 in (was, other_key x was (left_without id rows x h))

    pub put_over : HasPut k rest rows (put_row (Int id ∷ Text k ∷ rest) (without_rowid id rows))
    put_over =
        let new : Row = Int id ∷ Text k ∷ rest in
        let left = without_rowid id rows in
        let fresh : is_taken left new ≡ false = never_taken left id (Text k ∷ rest) (left_without id rows) in
        record {
          number = id;
          added = has_put new left;
          only = λ x h. elim (put_has new left x h) [ inl same ↦ inl same | inr was ↦ inr (left_of x was) ];
          kept = λ x h other. put_all_keeps (new ∷ []) left x (rw fresh refl) (kept_of x h other);
          numbered = put_numbered new left refl fresh (kept_numbered (λ y. not (has_rowid id y)) rows are);
        }

    pub drop_one : HasDropped k rows (without_rowid id rows)
    drop_one = record { only = left_of; kept = kept_of; numbered = kept_numbered (λ y. not (has_rowid id y)) rows are }

  -- no row had the key, and none goes
  pub drop_none : ((r : Row) → Has rows r → has_text k r ≡ false) → HasDropped k rows rows
  drop_none free = record { only = λ x h. (h, free x h); kept = λ x h other. h; numbered = are }
