-- The realm and the mark, where facts leave them.
use Rattle.std.proofs.Common.{◌≡◌, ℕ, Bool, true, false, ◌||◌, ◌==◌, List, [], ◌∷◌, ◌++◌, refl, sym, ap, ◌∙◌}
use Rattle.std.specs.Prelude.{Option, Some, None, option_map, option_and_then, is_some, fold}
use Rattle.std.specs.List.{list_any}
use Rattle.std.proofs.lemmas.Bool.{false≢true}
use Rattle.realm_data.specs.declared.realm_parts.RealmParts.{RealmParts}
use Rattle.keeper_rows.specs.declared.change.RowKey.{RowKey}
use Rattle.keeper_rows.specs.declared.change.RowKey.TheVariants as keys
use Rattle.facts.specs.declared.fact.Fact.{Fact}
use Rattle.facts.specs.declared.fact.Fact.TheVariants as events
use Rattle.facts.specs.Realms.{realm_put, current_realm, version_after, last_version}
use Rattle.facts.specs.Serials.{stored_serial_after, last_stored_serial}
use Rattle.facts.proofs.PlacesLemmas.{fold_append}
use Rattle.fact_rows.specs.Due.{realm_at, if_version}
use Rattle.fact_rows.specs.Rows.{realm_with, realm_row, mark_with, mark_row}
use Rattle.fact_rows.specs.Stored.{is_stored, is_opening_value, leaves_rows, has_rows}
use Rattle.fact_batches.proofs.KeptLemmas.{neither, last_kept, fold_kept, any_kept, map_same}
use Rattle.fact_batches.proofs.TouchedLemmas.{concerns}

abbrev puts_realm : Fact → Bool
puts_realm f = is_some (realm_put f)

no_realm : (f : Fact) → puts_realm f ≡ false → realm_put f ≡ None
no_realm (events.RealmPut version realm) h = absurd cc
no_realm f h = refl

no_version : (n : ℕ) (f : Fact) → puts_realm f ≡ false → version_after n f ≡ n
no_version n (events.RealmPut version realm) h = absurd cc
no_version n f h = refl

module _ (before : List Fact) (v : ℕ) where
  abbrev of_realm : Fact → Bool
  of_realm f = concerns before (keys.Realm v) f

  put_apart : (version : ℕ) (realm : RealmParts) → of_realm (events.RealmPut version realm) ≡ false → ((last_version before == v) ≡ false) × ((version == v) ≡ false)
  put_apart version realm h =
      let parts = neither _ _ (neither _ _ h).0 in
      (parts.0, (neither _ _ parts.1).0)

  former_apart : (added : List Fact) → list_any puts_realm added ≡ true → list_any of_realm added ≡ false → (last_version before == v) ≡ false
  former_apart [] h k = absurd (false≢true h)
  former_apart (events.RealmPut version realm ∷ added) h k = (put_apart version realm (neither _ _ k).0).0
  former_apart (f ∷ added) h k = former_apart added h (neither (of_realm f) (list_any of_realm added) k).1

  still_apart : (n : ℕ) (added : List Fact) → (n == v) ≡ false → list_any of_realm added ≡ false → (fold version_after n added == v) ≡ false
  still_apart n [] apart k = apart
  still_apart n (events.RealmPut version realm ∷ added) apart k =
      still_apart version added (put_apart version realm (neither _ _ k).0).1 (neither _ _ k).1
  still_apart n (f ∷ added) apart k = still_apart n added apart (neither (of_realm f) (list_any of_realm added) k).1

  not_due : (facts : List Fact) → (last_version facts == v) ≡ false → realm_at facts v ≡ None
  unfolding realm_row
  not_due facts apart = go (current_realm facts)
    where
      go : (o : Option RealmParts) → option_and_then (if_version v) (option_map (realm_with (last_version facts)) o) ≡ None
      go None = refl
      go (Some realm) = rw apart refl

  latter_apart : (added : List Fact) → (last_version before == v) ≡ false → list_any of_realm added ≡ false → (last_version (before ++ added) == v) ≡ false
  unfolding last_version
  latter_apart added former h = ap (λ n. n == v) (fold_append version_after 0 before added) ∙ still_apart (fold version_after 0 before) added former h

  version_kept : (added : List Fact) → list_any puts_realm added ≡ false → last_version (before ++ added) ≡ last_version before
  unfolding last_version
  version_kept added h = fold_kept puts_realm version_after no_version 0 before added h

  current_kept : (added : List Fact) → list_any puts_realm added ≡ false → current_realm (before ++ added) ≡ current_realm before
  unfolding current_realm
  current_kept added h = last_kept puts_realm realm_put no_realm before added h

  row_kept : (added : List Fact) → list_any puts_realm added ≡ false → realm_row (before ++ added) ≡ realm_row before
  unfolding realm_row
  row_kept added h =
      map_same (realm_with (last_version (before ++ added))) (realm_with (last_version before)) (current_realm (before ++ added)) (current_realm before) (current_kept added h)
      (λ realm. ap (λ n. realm_with n realm) (version_kept added h))

  pub realm_kept : (added : List Fact) → list_any of_realm added ≡ false → realm_at (before ++ added) v ≡ realm_at before v
  realm_kept added h = go (list_any puts_realm added) refl
    where
      go : (b : Bool) → list_any puts_realm added ≡ b → realm_at (before ++ added) v ≡ realm_at before v
      go true e =
          let former = former_apart added e h in
          not_due (before ++ added) (latter_apart added former h) ∙ sym (not_due before former)
      go false e = ap (option_and_then (if_version v)) (row_kept added e)

-- ---- the mark

abbrev pub is_kept_or_opening : Fact → Bool
is_kept_or_opening f = is_stored f || is_opening_value f

leaves_none : (f : Fact) → is_kept_or_opening f ≡ false → leaves_rows f ≡ false
leaves_none (events.Opened root tab version level life moment) h = refl
leaves_none (events.Rendered tab code action offer) h = refl
leaves_none (events.Named tab user) h = refl
leaves_none (events.Passed tab execution user kind credential moment) h = refl
leaves_none f h = absurd cc

no_serial : (n : ℕ) (f : Fact) → is_kept_or_opening f ≡ false → stored_serial_after n f ≡ n
no_serial n (events.Opened root tab version level life moment) h = refl
no_serial n (events.Rendered tab code action offer) h = refl
no_serial n (events.Named tab user) h = refl
no_serial n (events.Passed tab execution user kind credential moment) h = refl
no_serial n f h = absurd cc

rows_kept : (before added : List Fact) → list_any is_kept_or_opening added ≡ false → has_rows (before ++ added) ≡ has_rows before
unfolding has_rows
rows_kept before added h = any_kept is_kept_or_opening leaves_rows leaves_none before added h

serials_kept : (before added : List Fact) → list_any is_kept_or_opening added ≡ false → last_stored_serial (before ++ added) ≡ last_stored_serial before
unfolding last_stored_serial
serials_kept before added h = fold_kept is_kept_or_opening stored_serial_after no_serial 0 before added h

pub mark_kept : (moment : ℕ) (before added : List Fact) → list_any is_kept_or_opening added ≡ false → mark_row moment (before ++ added) ≡ mark_row moment before
unfolding mark_row mark_with
mark_kept moment before added h = rw (rows_kept before added h, serials_kept before added h) refl

pub untouched : (before : List Fact) (k : RowKey) (f : Fact) → is_kept_or_opening f ≡ false → concerns before k f ≡ false
untouched before k (events.Opened root tab version level life moment) h = refl
untouched before k (events.Rendered tab code action offer) h = refl
untouched before k (events.Named tab user) h = refl
untouched before k (events.Passed tab execution user kind credential moment) h = refl
untouched before k f h = absurd cc
