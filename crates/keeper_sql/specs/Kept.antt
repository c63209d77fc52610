-- What contracts see of a keeper, and the tables that it tells.
use Rattle.std.specs.Prelude.{◌≡◌, ℕ, Bool, ◌&&◌, Option, Some, None, Result, Ok, Err, IfOk, IsTrue, if◌then◌else◌, refl}
use Rattle.std.specs.Coded.{Coded, code_by, coded×, coded_ℕ, coded_bool, coded_result}
use Rattle.keeper_rows.specs.declared.tables.Tables.{Tables}
use Rattle.login_base.specs.Outside.{counted}
use Rattle.keeper_core.specs.declared.keeper.LoadFault.{LoadFault}
use Rattle.keeper_core.specs.declared.keeper.LoadFault.TheVariants as loads
use Rattle.keeper_core.specs.declared.keeper.CommitFault.{CommitFault}
use Rattle.keeper_core.specs.declared.keeper.CommitFault.TheVariants as commits
use Rattle.sqlite_trees.specs.declared.store.Store.{Ghosts}
use Rattle.sqlite.specs.declared.error.Error.{Error}
use Rattle.sqlite_trees.specs.Tree.{Trees}
use Rattle.sqlite.specs.State.{HasCleanDisk, Survives}
use Rattle.sqlite.specs.Held.{Held, held_code, state}
use Rattle.sql_base.specs.declared.fault.Fault.{Fault}
use Rattle.sql_base.specs.contracts.fault.Fault as fault
use Rattle.sql_base.specs.declared.fault.Fault.TheVariants as faults
use Rattle.sql_base.specs.Faults.{fault_of}
use Rattle.sql_base.specs.Told.{tables_in}
use Rattle.keeper_sql.specs.Committed.{IsOurs}

-- the connection, or why there is none; whether its tables were read and are ours; how many faults there were
pub record Kept (S : Type 0) : Type 0 where
  pub opened : Result (Held S) Fault
  pub known : Bool
  pub faults : ℕ

abbrev pub kept_code : {S : Type 0} → Coded S → Coded (Kept S)
kept_code {S} store =
    code_by (Result (Held S) Fault × (Bool × ℕ))
    (coded× (coded_result (held_code store) fault.the_row.coded) (coded× coded_bool coded_ℕ))
    (λ k. (k.opened, (k.known, k.faults)))
    (λ p. record { opened = p.0; known = p.1.0; faults = p.1.1 })
    (λ _. refl)

-- while the connection is open and its disk clean, a known keeper's tables are ours
abbrev pub KnowsOurs : {S : Type 0} → Ghosts S → Bool → Result (Held S) Fault → Type 0
KnowsOurs g known opened = IsTrue known → IfOk opened (λ h. HasCleanDisk (state g h) → IsTrue (state g h).is_open → IsOurs (state g h).now)

abbrev pub told_open : {S : Type 0} → Ghosts S → Result (Held S) Fault → Option Tables
told_open g (Ok h) = if (state g h).is_clean && (state g h).is_open then Some (tables_in (state g h).now.trees) else None
told_open g (Err fault) = None

-- the tables of a known keeper, while its connection is open and its disk clean
abbrev pub told : {S : Type 0} → Ghosts S → Bool → Result (Held S) Fault → Option Tables
told g known opened = if known then told_open g opened else None

-- a crash of an opened database finds what it could find before, or what may be committed
abbrev pub Endures : {S : Type 0} → Ghosts S → (Held S → Trees → Type 0) → Result (Held S) Fault → Result (Held S) Fault → Type 0
Endures g Commits (Ok before) (Ok now) = Survives (state g before) (state g now) (Commits before)
Endures g Commits (Err before) (Err now) = now ≡ before
Endures g Commits before now = ⊥

-- what a keeper keeps of an opening
abbrev pub opened_as : {C : Type 0} → Result C Error → Result C Fault
opened_as (Ok conn) = Ok conn
opened_as (Err error) = Err (fault_of error)

abbrev pub faults_after : Fault → ℕ → ℕ
faults_after faults.Failed before = counted before
faults_after faults.Memory before = before

abbrev pub load_fault : Fault → LoadFault
load_fault faults.Failed = loads.Failed
load_fault faults.Memory = loads.Memory

abbrev pub commit_fault : Fault → CommitFault
commit_fault faults.Failed = commits.Failed
commit_fault faults.Memory = commits.Memory
