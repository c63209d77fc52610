-- What a change of one row does to the rows as they are told.
use Rattle.std.proofs.Common.{◌≡◌, inl, inr, ℕ, ℤ, List, ◌∷◌, map, sym, ap, subst, ◌∙◌}
use Rattle.std.specs.List.{AllByRecursion}
use Rattle.std.proofs.lemmas.Cmp.{nat_list_cmp_total}
use Rattle.keeper_rows.specs.Applied.{text_cmp}
use Rattle.keeper_rows.specs.Keys.{has_key, put, dropped}
use Rattle.sqlite.specs.declared.types.Value.TheVariants.{Int, Text}
use Rattle.sqlite.specs.Order.{Row}
use Rattle.sqlite_rules.specs.Lists.{Has}
use Rattle.sqlite_rules.proofs.ListLemmas.{all_has}
use Rattle.sqlite_rules.proofs.ProbeLemmas.{has_mapped, mapped_has}
use Rattle.sql_base.specs.Told.{by_key, text_of}
use Rattle.sql_base.specs.Ready.{AreApart}
use Rattle.sql_base.proofs.TellLemmas.{told_put, told_drop}
use Rattle.sql_sessions.proofs.Keys.{told_text}
use Rattle.sql_sessions.proofs.Members.{key, has_text, HasPut, HasDropped}
use Rattle.sql_sessions.proofs.Upserts.{IsText}

module _ {R : Type 0} (of : Row → R) (named : R → List ℕ) (own : (r : Row) → named (of r) ≡ text_of (key r)) (old new : List Row)
    (typed : AllByRecursion (λ r. IsText (key r)) old) (apart : AreApart text_cmp named (map of old)) (still : AreApart text_cmp named (map of new)) where
  -- a row has the key as it is told where it has it as it is stored
  is_named : (k : List ℕ) (r : Row) → Has old r → has_key text_cmp named k (of r) ≡ has_text k r
  is_named k r h = rw (own r) (told_text k r (all_has _ old r typed h))

  pub tells_put : (k : List ℕ) (rest : Row) (row : R) → named row ≡ k → ((n : ℤ) → of (Int n ∷ Text k ∷ rest) ≡ row) → HasPut k rest old new
      → by_key text_cmp named (map of new) ≡ put text_cmp named row (by_key text_cmp named (map of old))
  tells_put k rest row is_key is_row put_in = told_put nat_list_cmp_total named row (map of old) (map of new) apart still (record {
    there = λ x h.
        let from = has_mapped of new x h in
        elim (put_in.only from.0 from.1) [
          | inl same ↦ inl (from.2 ∙ ap of same ∙ is_row put_in.number)
          | inr was ↦ inr (subst (Has (map of old)) (sym from.2) (mapped_has of old from.0 was.0), rw (from.2, is_key) (is_named k from.0 was.0 ∙ was.1))
        ];
    has = subst (Has (map of new)) (is_row put_in.number) (mapped_has of new _ put_in.added);
    back = λ x h other.
        let from = has_mapped of old x h in
        subst (Has (map of new)) (sym from.2) (mapped_has of new from.0 (put_in.kept from.0 from.1 (sym (is_named k from.0 from.1) ∙ (rw (from.2, is_key) at other))));
  })

  pub tells_drop : (k : List ℕ) → HasDropped k old new → by_key text_cmp named (map of new) ≡ dropped text_cmp named k (by_key text_cmp named (map of old))
  tells_drop k left = told_drop nat_list_cmp_total named k (map of old) (map of new) apart still (record {
    there = λ x h.
        let from = has_mapped of new x h in
        let was = left.only from.0 from.1 in
        (subst (Has (map of old)) (sym from.2) (mapped_has of old from.0 was.0), rw from.2 (is_named k from.0 was.0 ∙ was.1));
    back = λ x h other.
        let from = has_mapped of old x h in
        subst (Has (map of new)) (sym from.2) (mapped_has of new from.0 (left.kept from.0 from.1 (sym (is_named k from.0 from.1) ∙ (rw from.2 at other))));
  })
