-- What a keeper does, and what it counts.
use Rattle.std.specs.Prelude.{◌≡◌, ℕ, ℤ, ◌+◌, Bool, true, false, List, [], ◌∷◌, ◌++◌, Option, Some, None, Result, Ok, Err, IfSome, IsSomeAnd, if◌then◌else◌}
use Rattle.keeper_rows.specs.declared.tables.Tables.{Tables}
use Rattle.keeper_rows.specs.declared.change.Change.{Change}
use Rattle.keeper_rows.specs.Applied.{applied}
use Rattle.keeper_rules.specs.declared.misfit.Misfit.{Misfit}
use Rattle.keeper_rules.specs.Misfits.{foreign_of, misfit_of}
use Rattle.keeper_core.specs.declared.keeper.LoadFault.{LoadFault}
use Rattle.keeper_core.specs.declared.keeper.LoadFault.TheVariants as loads
use Rattle.keeper_core.specs.declared.keeper.CommitFault.{CommitFault}
use Rattle.keeper_core.specs.declared.keeper.CommitFault.TheVariants as commits

-- how many loads and commits were made, counted together, and the numbers, from 1, of those that failed
pub record CallsMade : Type 0 where
  pub count : ℕ
  pub failed : List ℕ

-- one call more
abbrev pub made : Bool → CallsMade → CallsMade
made failed calls =
    record { count = calls.count + 1; failed = if failed then calls.failed ++ (calls.count + 1) ∷ [] else calls.failed }

-- where they are told after a call, they were told before it, and there is one call more
abbrev pub CallsGoOn : Bool → Option CallsMade → Option CallsMade → Type 0
CallsGoOn failed old new = IfSome new (λ now. IsSomeAnd old (λ before. now ≡ made failed before))

abbrev pub is_failed_load : Result Tables LoadFault → Bool
is_failed_load (Err loads.Failed) = true
is_failed_load answer = false

abbrev pub is_failed_commit : Result (Unit {0}) CommitFault → Bool
is_failed_commit (Err commits.Failed) = true
is_failed_commit answer = false

-- ---- loads

abbrev pub loaded_by : Option ℤ → Option Misfit → Tables → Result Tables LoadFault
loaded_by (Some version) misfit t = Err (loads.Foreign version)
loaded_by None (Some misfit) t = Err (loads.Misfit misfit.rule misfit.row)
loaded_by None None t = Ok t

-- the tables, where they have a known schema and break no rule
abbrev pub loaded : Tables → Result Tables LoadFault
loaded t = loaded_by (foreign_of t) (misfit_of t) t

-- the keeper failed, memory was wanting, or the answer is that of these tables
abbrev pub IsAnswer : Tables → Result Tables LoadFault → Type 0
IsAnswer t (Err loads.Failed) = Unit {0}
IsAnswer t (Err loads.Memory) = Unit {0}
IsAnswer t answer = answer ≡ loaded t

-- the answer is that of the tables, where they are told
abbrev pub Answers : Option Tables → Result Tables LoadFault → Type 0
Answers None answer = Unit {0}
Answers (Some t) answer = IsAnswer t answer

-- the schema is known, and no rule is broken
pub record KeepsRules (t : Tables) : Type 0 where
  pub known : foreign_of t ≡ None
  pub fits : misfit_of t ≡ None

-- where the tables are told before and after, they are the same
abbrev pub Stays : Option Tables → Option Tables → Type 0
Stays old new = IfSome new (λ now. IfSome old (λ before. now ≡ before))

-- ---- commits

-- where the tables are told after the call, they were told before it, and are the same
abbrev pub Keeps : Option Tables → Option Tables → Type 0
Keeps old new = IfSome new (λ now. old ≡ Some now)

-- where the tables are told after the call, they were told before it, and have the changes in order
abbrev pub Commits : Option Tables → Option Tables → List Change → Type 0
Commits old new changes = IfSome new (λ now. IsSomeAnd old (λ before. now ≡ applied changes before))
