-- What a keeper in memory keeps.
use Rattle.std.specs.Prelude.{ℕ, zero, suc, ◌-◌, ◌^◌, ◌==◌, List, [], ◌∷◌, ◌++◌, Option, Some, None, nat_lt, if◌then◌else◌}
use Rattle.std.specs.List.{list_any}
use Rattle.login_base.specs.InMemory.{CallState}
use Rattle.keeper_rows.specs.declared.tables.Tables.{Tables}
use Rattle.keeper_core.specs.Keeping.{CallsMade}

-- the tables, and the calls
pub record KeeperState : Type 0 where
  pub tables : Tables
  pub calls : CallState

-- the numbers up to this one that are to fail, ascending
unfoldable pub failed_up_to : List ℕ → ℕ → List ℕ
failed_up_to failing zero = []
failed_up_to failing (suc n) =
    if list_any (λ number. suc n == number) failing then failed_up_to failing n ++ suc n ∷ []
    else failed_up_to failing n

-- the calls are told while their number is below the greatest one
abbrev pub told_calls : CallState → Option CallsMade
told_calls calls =
    if nat_lt calls.count (2 ^ 64 - 1) then Some (record { count = calls.count; failed = failed_up_to calls.failing calls.count })
    else None
