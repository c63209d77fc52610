-- What is read of the realms.
use Rattle.std.proofs.Common.{◌≡◌, ◌+◌, pos, ℕ, ℤ, negsuc, Bool, true, false, not, None, List, map, Less, Ok, Err, Result, refl, sym, ap, ◌∙◌, true≢false, arith}
use Rattle.std.specs.Prelude.{◌&&◌, is_some, option_map, unwrap_or}
use Rattle.std.specs.Ordering.{int_cmp, nat_cmp}
use Rattle.std.specs.Result.{is_ok}
use Rattle.std.specs.List.{AllByRecursion, position}
use Rattle.std.proofs.lemmas.Bool.{and_parts}
use Rattle.std.proofs.lemmas.Bool.Decides.{nat_tests}
use Rattle.std.proofs.lemmas.Int.{ints}
use Rattle.realm_data.specs.declared.realm_parts.RealmParts.{RealmParts}
use Rattle.realm_data.specs.RealmBuiltin.{builtin_realm}
use Rattle.realm_fields.specs.declared.fault.RealmFault.{RealmFault}
use Rattle.realm_file.specs.RealmFile.{realm_read}
use Rattle.keeper_rows.specs.Applied.{realm_key}
use Rattle.sqlite.specs.declared.types.Value.TheVariants.{Int}
use Rattle.sqlite.specs.Order.{Row, column, value_cmp}
use Rattle.sqlite_value.proofs.OrderLemmas.{value_cmp-Int}
use Rattle.sqlite_trees.specs.Tree.{rowid}
use Rattle.sqlite_rules.proofs.ListLemmas.{all_has, all_from}
use Rattle.sqlite_rules.proofs.TableLemmas.{int_is}
use Rattle.sql_base.specs.Ready.{AreNumbered, IsNatural}
use Rattle.sql_base.specs.Steps.{AreListed}
use Rattle.sql_base.specs.Told as told
use Rattle.sql_base.specs.Told.{realm_of, number_of}
use Rattle.sql_accounts.specs.Shown.{realm_shown}
use Rattle.sql_accounts.proofs.RealmLemmas.{keyed}
use Rattle.sql_loads.specs.Fits.{RealmFits}
use Rattle.sql_loads.specs.Loads.{by_rowid, first_failing, is_natural, tells_realm}
use Rattle.sql_loads.specs.Read.{IsRead}
use Rattle.sql_loads.specs.Values.{if_read, is_told, realm_in, realm_row}
use Rattle.sql_loads.specs.declared.stored.StoredRealm.{StoredRealm}
use Rattle.sql_loads.proofs.Loads.{maps_same, rows_numbered, rowids_are_keys}
use Rattle.sql_loads.proofs.Rowids.{answered, none_fails, numbered_alike, told_by_rowid}

abbrev version : StoredRealm → ℤ
version stored = stored.version

or_builtin_is : (read : Result RealmParts RealmFault) → unwrap_or (if_read read) builtin_realm ≡ told.realm_in read
or_builtin_is (Ok realm) = refl
or_builtin_is (Err fault) = refl

is_read : (read : Result RealmParts RealmFault) → is_some (if_read read) ≡ is_ok read
is_read (Ok realm) = refl
is_read (Err fault) = refl

nat_below : (m n : ℕ) → int_cmp (pos m) (pos n) ≡ Less → nat_cmp m n ≡ Less
nat_below m n low = grind (arith, ints, nat_tests)

untrue : (b : Bool) → not b ≡ false → b ≡ true
untrue true h = refl
untrue false h = absurd (true≢false h)

natural_is : (n : ℤ) → is_natural n ≡ true → (k : ℕ) × (n ≡ pos k)
natural_is (pos k) is = (k, refl)
natural_is (negsuc k) is = absurd (true≢false (sym is))

module _ (rows answer : List Row) (stored : List StoredRealm) (listed : AreListed realm_shown rows answer) (read : IsRead int_cmp version realm_in RealmFits answer stored) where
  key_is : (r : Row) → RealmFits r → column r 0 ≡ Int (version (realm_in r))
  key_is r fit = let is = fit.version.1 in rw is refl

  pub realms_numbered : AreNumbered rows
  realms_numbered = rows_numbered realm_shown rows answer listed 0 (λ r. refl) (rowids_are_keys version realm_in RealmFits key_is answer stored read)

  stored_is : stored ≡ map (λ r. realm_in (realm_shown r)) (by_rowid rows)
  stored_is = read.is ∙ ap (map realm_in) (answered realm_shown rows answer listed (λ r. refl) realms_numbered) ∙ maps_same realm_in realm_shown (λ r. realm_in (realm_shown r)) (λ r. refl) (by_rowid rows)

  pub realms_rows : map realm_row stored ≡ map realm_of (by_rowid rows)
  realms_rows = ap (map realm_row) stored_is ∙ maps_same realm_row (λ r. realm_in (realm_shown r)) realm_of (λ r. ap (λ realm. record { version = told.nat_of (told.number_at r 0); realm = realm }) (or_builtin_is (realm_read (told.text_at r 2)))) (by_rowid rows)

  pub realms_untold : option_map (λ at. at + 1) (position (λ realm. not (is_told realm)) stored) ≡ first_failing tells_realm (by_rowid rows)
  realms_untold = ap (λ l. option_map (λ at. at + 1) (position (λ realm. not (is_told realm)) l)) stored_is
      ∙ numbered_alike (λ realm. not (is_told realm)) (λ row. not (tells_realm row)) (λ r. realm_in (realm_shown r)) (λ r. ap (λ b. not (is_natural (told.number_at r 0) && b)) (is_read (realm_read (told.text_at r 2)))) (by_rowid rows)

  below : (a b : Row) → IsNatural a → IsNatural b → value_cmp (rowid a) (rowid b) ≡ Less → nat_cmp (realm_key (realm_of a)) (realm_key (realm_of b)) ≡ Less
  below a b m n low = let e = nat_below m.0 n.0 (sym (value_cmp-Int (pos m.0) (pos n.0)) ∙ (rw (m.1, n.1) at low)) in rw (m.1, n.1) e

  pub realms_told : AllByRecursion IsNatural rows → map realm_row stored ≡ told.by_key nat_cmp realm_key (map realm_of rows)
  realms_told all = realms_rows ∙ told_by_rowid keyed below rows realms_numbered all

  pub realms_natural : first_failing tells_realm (by_rowid rows) ≡ None → AllByRecursion IsNatural rows
  realms_natural none = all_from IsNatural rows (λ r h.
      let number = int_is (rowid r) (all_has _ rows r realms_numbered.numbers h) in
      let passes : tells_realm r ≡ true = untrue _ (none_fails tells_realm rows none r h) in
      let natural = natural_is (told.number_at r 0) (and_parts _ _ passes).0 in
      (natural.0, number ∙ ap Int (sym (ap number_of number) ∙ natural.1)))
