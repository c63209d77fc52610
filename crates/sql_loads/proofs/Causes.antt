-- Rows that can be loaded are read: they fit, and their keys rise.
use Rattle.std.proofs.Common.{◌≡◌, ◌<◌, ℤ, true, false, List, map, length, refl, sym, ap, ◌∙◌, arith}
use Rattle.std.specs.Ordering.{int_cmp, is_eq}
use Rattle.std.specs.List.{AllByRecursion}
use Rattle.std.proofs.lemmas.Cmp.{int_cmp_total, nat_list_cmp_total}
use Rattle.keeper_rows.specs.Applied.{account_key, secret_key, session_key, token_key, text_cmp}
use Rattle.sqlite.specs.declared.types.Value.TheVariants.{Int, Text}
use Rattle.sqlite.specs.Order.{Row, column, value_cmp}
use Rattle.sqlite_value.proofs.OrderLemmas.{value_cmp-Int, value_cmp-Text}
use Rattle.sqlite_trees.specs.Tree.{rowid}
use Rattle.sqlite_trees.specs.View.{is_int}
use Rattle.sqlite_trees.proofs.ListLemmas.{all_of, ascending-map}
use Rattle.sqlite_rules.specs.Lists.{Has}
use Rattle.sqlite_rules.proofs.ListLemmas.{all_has}
use Rattle.sqlite_rules.proofs.TableLemmas.{int_is}
use Rattle.sql_base.specs.Ready.{AreApart, AreNumbered}
use Rattle.sql_base.specs.Steps.{AreListed}
use Rattle.sql_base.specs.Told.{account_of, secret_of, session_of, token_of}
use Rattle.sql_accounts.specs.Shown.{realm_shown, account_shown, secret_shown, mark_shown}
use Rattle.sql_sessions.specs.Values.{session_shown, token_shown, session_in, token_in}
use Rattle.sql_sessions.proofs.Apart.{apart_weaker}
use Rattle.sql_loads.specs.Fits.{RealmFits, AccountFits, SecretFits, SessionFits, TokenFits, MarkFits}
use Rattle.sql_loads.specs.Loads.{RealmsFit, AccountsFit, SecretsFit, SessionsFit, TokensFit, MarksFit}
use Rattle.sql_loads.specs.Read.{HaveRowids, Rises}
use Rattle.sql_loads.specs.Values.{account_in, secret_in, realm_in, mark_in}
use Rattle.sql_loads.specs.declared.stored.StoredMark.{StoredMark}
use Rattle.sql_loads.specs.declared.stored.StoredRealm.{StoredRealm}
use Rattle.sql_loads.proofs.Loads.{answer_rises, fits_answer, rowids_answered}

-- keys that are the rowids differ
keys_apart : {R : Type 0} (key : R → ℤ) (of : Row → R) → ((r : Row) → is_int (rowid r) ≡ true → rowid r ≡ Int (key (of r))) → (rows : List Row) → AreNumbered rows → AreApart int_cmp key (map of rows)
keys_apart key of own rows are = ascending-map (λ a b. is_eq (int_cmp (key a) (key b)) ≡ false) of rows
    (apart_weaker (λ a b. is_eq (value_cmp (rowid a) (rowid b)) ≡ false) (λ a b. is_eq (int_cmp (key (of a)) (key (of b))) ≡ false) rows each are.apart)
  where
    each : (a b : Row) → Has rows a → Has rows b → is_eq (value_cmp (rowid a) (rowid b)) ≡ false → is_eq (int_cmp (key (of a)) (key (of b))) ≡ false
    each a b ha hb other =
        let m = own a (all_has _ rows a are.numbers ha) in
        let n = own b (all_has _ rows b are.numbers hb) in
        ap is_eq (sym (value_cmp-Int (key (of a)) (key (of b)))) ∙ (rw (m, n) at other)

module _ {R : Type 0} (key : R → ℤ) (of : Row → R) (shown : Row → Row) (told_by : Row → R) (told_is : (r : Row) → told_by (shown r) ≡ of r) (Fits : Row → Type 0)
    (own : (r : Row) → is_int (rowid r) ≡ true → rowid r ≡ Int (key (of r))) (key_is : (r : Row) → Fits r → column r 0 ≡ Int (key (told_by r))) where
  numbers_rise : (rows answer : List Row) → AreListed shown rows answer → AllByRecursion (λ r. Fits (shown r)) rows → AreNumbered rows → AllByRecursion Fits answer × Rises int_cmp key (map told_by answer)
  numbers_rise rows answer listed fit are =
      let all = fits_answer shown rows answer listed Fits fit in (
        all,
        answer_rises shown rows answer listed int_cmp_total key of told_by told_is Fits
            (λ a b fa fb. rw (key_is a fa, key_is b fb) (value_cmp-Int (key (told_by a)) (key (told_by b)))) all (keys_apart key of own rows are),
      )

module _ {R : Type 0} (key : R → List _) (of : Row → R) (shown : Row → Row) (told_by : Row → R) (told_is : (r : Row) → told_by (shown r) ≡ of r) (Fits : Row → Type 0)
    (key_is : (r : Row) → Fits r → column r 0 ≡ Text (key (told_by r))) where
  texts_rise : (rows answer : List Row) → AreListed shown rows answer → AllByRecursion (λ r. Fits (shown r)) rows → AreApart text_cmp key (map of rows) → AllByRecursion Fits answer × Rises text_cmp key (map told_by answer)
  texts_rise rows answer listed fit apart =
      let all = fits_answer shown rows answer listed Fits fit in (
        all,
        answer_rises shown rows answer listed nat_list_cmp_total key of told_by told_is Fits
            (λ a b fa fb. rw (key_is a fa, key_is b fb) (value_cmp-Text (key (told_by a)) (key (told_by b)))) all apart,
      )

module _ (rows answer : List Row) where
  pub realms_rise : AreListed realm_shown rows answer → RealmsFit rows → AllByRecursion RealmFits answer × Rises int_cmp (λ (s : StoredRealm). s.version) (map realm_in answer)
  realms_rise listed well = numbers_rise (λ (s : StoredRealm). s.version) (λ r. realm_in (realm_shown r)) realm_shown realm_in (λ r. refl) RealmFits
      (λ r h. let v = int_is (rowid r) h in rw v refl) (λ r fit. let is = fit.version.1 in rw is refl) rows answer listed well.fit well.numbered

  pub accounts_rise : AreListed account_shown rows answer → AccountsFit rows → AllByRecursion AccountFits answer × Rises int_cmp account_key (map account_in answer)
  accounts_rise listed well = numbers_rise account_key account_of account_shown account_in (λ r. refl) AccountFits
      (λ r h. let v = int_is (rowid r) h in rw v refl) (λ r fit. let is = fit.id.1 in rw is refl) rows answer listed well.fit well.numbered

  pub secrets_rise : AreListed secret_shown rows answer → SecretsFit rows → AllByRecursion SecretFits answer × Rises int_cmp secret_key (map secret_in answer)
  secrets_rise listed well = numbers_rise secret_key secret_of secret_shown secret_in (λ r. refl) SecretFits
      (λ r h. let v = int_is (rowid r) h in rw v refl) (λ r fit. let is = fit.serial.1 in rw is refl) rows answer listed well.fit well.numbered

  pub marks_rise : AreListed mark_shown rows answer → MarksFit rows → AllByRecursion MarkFits answer × Rises int_cmp (λ (s : StoredMark). s.one) (map mark_in answer)
  marks_rise listed well = numbers_rise (λ (s : StoredMark). s.one) (λ r. mark_in (mark_shown r)) mark_shown mark_in (λ r. refl) MarkFits
      (λ r h. let v = int_is (rowid r) h in rw v refl) (λ r fit. let is = fit.one.1 in rw is refl) rows answer listed well.fit well.numbered

  pub sessions_rise : AreListed session_shown rows answer → SessionsFit rows → AllByRecursion SessionFits answer × Rises text_cmp session_key (map session_in answer)
  sessions_rise listed well = texts_rise session_key session_of session_shown session_in (λ r. refl) SessionFits (λ r fit. let is = fit.id.1 in rw is refl) rows answer listed well.fit well.kept.apart

  pub tokens_rise : AreListed token_shown rows answer → TokensFit rows → AllByRecursion TokenFits answer × Rises text_cmp token_key (map token_in answer)
  tokens_rise listed well = texts_rise token_key token_of token_shown token_in (λ r. refl) TokenFits (λ r fit. let is = fit.key.1 in rw is refl) rows answer listed well.fit well.kept.apart

  pub session_rowids : AreListed session_shown rows answer → SessionsFit rows → AllByRecursion (λ row. 7 < length row) answer × HaveRowids 7 answer
  session_rowids listed well = (
    fits_answer session_shown rows answer listed (λ row. 7 < length row) (all_of _ (λ r. omega arith) rows),
    rowids_answered session_shown rows answer listed 7 (λ r. refl) well.kept.numbered,
  )

  pub token_rowids : AreListed token_shown rows answer → TokensFit rows → AllByRecursion (λ row. 5 < length row) answer × HaveRowids 5 answer
  token_rowids listed well = (
    fits_answer token_shown rows answer listed (λ row. 5 < length row) (all_of _ (λ r. omega arith) rows),
    rowids_answered token_shown rows answer listed 5 (λ r. refl) well.kept.numbered,
  )
