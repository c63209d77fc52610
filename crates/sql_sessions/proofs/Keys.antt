-- What a sound database says of a table whose key is the text in its first column.
use Rattle.std.proofs.Common.{◌≡◌, ℕ, Bool, true, false, not, ◌&&◌, None, Some, List, [], ◌∷◌, map, drop, Ordering, Less, Equal, Greater, refl, sym, ap, ◌∙◌, true≢false}
use Rattle.std.specs.Ordering.{is_eq, is_ne}
use Rattle.std.specs.List.{AllByRecursion}
use Rattle.std.proofs.lemmas.Bool.{not-true}
use Rattle.keeper_rows.specs.Applied.{text_cmp}
use Rattle.sqlite.specs.declared.types.Value.TheVariants.{Null, Int, Real, Text, Blob}
use Rattle.sqlite.specs.Collation.TheVariants.{Binary}
use Rattle.sqlite.specs.Kind.TheVariants as kind
use Rattle.sqlite.specs.Order.{Row, value_cmp}
use Rattle.sqlite_value.specs.Keys.{plain, first_key}
use Rattle.sqlite_value.proofs.OrderLemmas.{value_cmp-Text}
use Rattle.sqlite_sql.specs.Ops.{binary, is_true, from_truth}
use Rattle.sqlite_schema.specs.declared.schema.Column.{Column}
use Rattle.sqlite_schema.specs.Rules.{equal, differ, agree, clashes, are_typed, are_present}
use Rattle.sqlite_trees.specs.Tree.{rowid}
use Rattle.sqlite_trees.specs.View.{is_int}
use Rattle.sqlite_trees.proofs.ListLemmas.{ascending-map}
use Rattle.sqlite_rules.specs.Lists.{Has}
use Rattle.sqlite_rules.specs.Edit.{id_in}
use Rattle.sqlite_rules.proofs.ListLemmas.{all_has}
use Rattle.sqlite_rules.proofs.TableLemmas.{int_is}
use Rattle.sql_base.specs.Schema.{full_column}
use Rattle.sql_base.specs.Told.{text_of}
use Rattle.sql_base.specs.Ready.{AreApart, AreNumbered}
use Rattle.sql_sessions.proofs.Apart.{none_has, apart_weaker}
use Rattle.sql_sessions.proofs.Members.{key, has_text}
use Rattle.sql_sessions.proofs.Upserts.{IsText, equal_text, and_true}

-- a column of texts without NULL holds a text
pub text_key : (name : List ℕ) (others : List Column) (row : Row) → are_typed None 0 (full_column name kind.Text ∷ others) (drop 1 row) ≡ true
    → are_present None 0 (full_column name kind.Text ∷ others) row ≡ true → IsText (key row)
text_key name others [] typed present = absurd (true≢false (sym present))
text_key name others (v ∷ []) typed present = absurd (true≢false (sym present))
text_key name others (v ∷ Null ∷ more) typed present = absurd (true≢false (sym present))
text_key name others (v ∷ Int n ∷ more) typed present = absurd (true≢false (sym typed))
text_key name others (v ∷ Real x ∷ more) typed present = absurd (true≢false (sym typed))
text_key name others (v ∷ Text t ∷ more) typed present = (t, refl)
text_key name others (v ∷ Blob b ∷ more) typed present = absurd (true≢false (sym typed))

differs : (o : Ordering) → is_eq o ≡ false → is_true (from_truth (Some (is_ne o))) ≡ true
differs Less e = refl
differs Equal e = absurd (true≢false e)
differs Greater e = refl

differ_number : (a b : Row) → is_int (rowid a) ≡ true → is_int (rowid b) ≡ true → is_eq (value_cmp (rowid a) (rowid b)) ≡ false → differ (rowid a) (rowid b) ≡ true
unfolding binary
differ_number a b ia ib other =
    let x = int_is (rowid a) ia in
    let y = int_is (rowid b) ib in
    rw (x, y) (differs (value_cmp (Int (id_in (rowid a))) (Int (id_in (rowid b)))) (rw (x, y) at other))

left_false : (a b : Bool) → (a && b) ≡ false → b ≡ true → a ≡ false
left_false true b h is = absurd (true≢false (sym is ∙ h))
left_false false b h is = refl

-- where no other rowid has the same key, rows of other rowids have other keys
pub keys_apart : (rows : List Row) → AreNumbered rows → AllByRecursion (λ r. IsText (key r)) rows
    → AllByRecursion (λ r. not (clashes plain (1 ∷ []) rows r) ≡ true) rows → AreApart value_cmp key rows
unfolding first_key
keys_apart rows are typed unique = apart_weaker _ _ rows each are.apart
  where
    each : (a b : Row) → Has rows a → Has rows b → is_eq (value_cmp (rowid a) (rowid b)) ≡ false → is_eq (value_cmp (key a) (key b)) ≡ false
    each a b ha hb other =
        let text = all_has _ rows b typed hb in
        let lone : (agree plain (1 ∷ []) a (1 ∷ []) b && differ (rowid a) (rowid b)) ≡ false =
        none_has (λ x. agree plain (1 ∷ []) x (1 ∷ []) b && differ (rowid x) (rowid b)) rows a (not-true _ (all_has _ rows b unique hb)) ha in
        let apart = left_false (agree plain (1 ∷ []) a (1 ∷ []) b) _ lone (differ_number a b (all_has _ rows a are.numbers ha) (all_has _ rows b are.numbers hb) other) in
        let one : equal Binary (key a) (key b) ≡ false = sym (and_true _) ∙ apart in
        let same : equal Binary (key a) (Text text.0) ≡ has_text text.0 a = equal_text text.0 a (all_has _ rows a typed ha) in
        ap (λ v. is_eq (value_cmp (key a) v)) text.1 ∙ sym same ∙ ap (equal Binary (key a)) (sym text.1) ∙ one

-- texts are ordered as they are told
pub told_text : (k : List ℕ) (r : Row) → IsText (key r) → is_eq (text_cmp (text_of (key r)) k) ≡ has_text k r
told_text k r is = rw is.1 (ap is_eq (sym (value_cmp-Text is.0 k)))

-- rows with keys of their own are told with keys of their own
pub told_apart : {R : Type 0} (of : Row → R) (named : R → List ℕ) → ((r : Row) → named (of r) ≡ text_of (key r)) → (rows : List Row)
    → AllByRecursion (λ r. IsText (key r)) rows → AreApart value_cmp key rows → AreApart text_cmp named (map of rows)
told_apart of named own rows typed apart = ascending-map _ of rows (apart_weaker _ _ rows each apart)
  where
    each : (a b : Row) → Has rows a → Has rows b → is_eq (value_cmp (key a) (key b)) ≡ false → is_eq (text_cmp (named (of a)) (named (of b))) ≡ false
    each a b ha hb other =
        let text = all_has _ rows b typed hb in
        rw (own a, own b, text.1) (told_text text.0 a (all_has _ rows a typed ha) ∙ ap (λ v. is_eq (value_cmp (key a) v)) (sym text.1) ∙ other)
