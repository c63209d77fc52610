-- What is read of the tables whose keys are whole numbers.
use Rattle.std.proofs.Common.{◌≡◌, List, map, Ok, Err, Result, IfOk, OnOk, refl}
use Rattle.std.specs.Ordering.{int_cmp}
use Rattle.std.proofs.lemmas.Cmp.{int_cmp_total}
use Rattle.keeper_rows.specs.Applied.{account_key, secret_key}
use Rattle.keeper_rows.specs.declared.rows.AccountRow.{AccountRow}
use Rattle.keeper_rows.specs.declared.rows.SecretRow.{SecretRow}
use Rattle.sqlite.specs.declared.types.Value.TheVariants.{Int}
use Rattle.sqlite.specs.Order.{Row, column}
use Rattle.sql_base.specs.Ready.{AreNumbered}
use Rattle.sql_base.specs.Steps.{AreListed}
use Rattle.sql_base.specs.Told.{by_key, account_of, secret_of}
use Rattle.sql_accounts.specs.Shown.{account_shown, secret_shown}
use Rattle.sql_loads.specs.Fits.{AccountFits, SecretFits}
use Rattle.sql_loads.specs.Read.{IsRead}
use Rattle.sql_loads.specs.Values.{account_in, secret_in}
use Rattle.sql_loads.proofs.Loads.{rows_told, rows_numbered, rowids_are_keys}

account_key_is : (r : Row) → AccountFits r → column r 0 ≡ Int (account_key (account_in r))
account_key_is r fit = let is = fit.id.1 in rw is refl

pub accounts_told : {E : Type 0} (rows answer : List Row) (r : Result (List AccountRow) E) → AreListed account_shown rows answer → IfOk r (IsRead int_cmp account_key account_in AccountFits answer)
    → IfOk r (λ told. told ≡ by_key int_cmp account_key (map account_of rows))
accounts_told rows answer (Ok told) listed read = rows_told account_shown rows answer listed int_cmp_total account_key account_of account_in (λ r. refl) AccountFits told read
accounts_told rows answer (Err e) listed read = tt

pub accounts_numbered : {E : Type 0} (rows answer : List Row) (r : Result (List AccountRow) E) → AreListed account_shown rows answer → IfOk r (IsRead int_cmp account_key account_in AccountFits answer) → OnOk r (AreNumbered rows)
accounts_numbered rows answer (Ok told) listed read = rows_numbered account_shown rows answer listed 0 (λ r. refl) (rowids_are_keys account_key account_in AccountFits account_key_is answer told read)
accounts_numbered rows answer (Err e) listed read = tt

secret_key_is : (r : Row) → SecretFits r → column r 0 ≡ Int (secret_key (secret_in r))
secret_key_is r fit = let is = fit.serial.1 in rw is refl

pub secrets_told : {E : Type 0} (rows answer : List Row) (r : Result (List SecretRow) E) → AreListed secret_shown rows answer → IfOk r (IsRead int_cmp secret_key secret_in SecretFits answer)
    → IfOk r (λ told. told ≡ by_key int_cmp secret_key (map secret_of rows))
secrets_told rows answer (Ok told) listed read = rows_told secret_shown rows answer listed int_cmp_total secret_key secret_of secret_in (λ r. refl) SecretFits told read
secrets_told rows answer (Err e) listed read = tt

pub secrets_numbered : {E : Type 0} (rows answer : List Row) (r : Result (List SecretRow) E) → AreListed secret_shown rows answer → IfOk r (IsRead int_cmp secret_key secret_in SecretFits answer) → OnOk r (AreNumbered rows)
secrets_numbered rows answer (Ok told) listed read = rows_numbered secret_shown rows answer listed 0 (λ r. refl) (rowids_are_keys secret_key secret_in SecretFits secret_key_is answer told read)
secrets_numbered rows answer (Err e) listed read = tt
