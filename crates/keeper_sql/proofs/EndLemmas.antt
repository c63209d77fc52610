-- How statements and transactions end.
use Rattle.std.proofs.Common.{inl, inr, ℕ, List, [], Result, Ok, Err, OnErr, refl, arith}
use Rattle.sqlite_trees.specs.Tree.{Trees}
use Rattle.sqlite.specs.Order.{Row}
use Rattle.sqlite.specs.declared.error.Error.{Error}
use Rattle.sqlite.specs.State.{State, IsNotRun, KeepsCommit, Survives}
use Rattle.keeper_sql.specs.Committed.{IsRefused}

pub on_err : {A E P : Type 0} (r : Result A E) → P → OnErr r P
on_err (Ok a) p = tt
on_err (Err e) p = p

-- what is refused commits nothing
pub keeps : (old new : State) → IsRefused old new → KeepsCommit old new
keeps old new (inl same) = record { was_open = λ _. same.0.was_open; committed = λ _. same.0.committed_is }
keeps old new (inr back) = record { was_open = back.was_open; committed = λ h. (back.undone h).1 }

pub not_run : (old new : State) (sql : List ℕ) (e : Error) → ((params : Row) → IsNotRun old new sql params e) → IsRefused old new
unfolding IsNotRun
not_run old new sql e h = elim (h []) [ inl same ↦ inl same.1 | inr back ↦ inr back.3 ]

-- what nothing was done to endures a crash as before
pub unmoved : (s : State) (Commits : Trees → Type 0) → Survives s s Commits
unmoved s Commits = record { clean = omega arith; shield = λ h. h; counts = omega arith; limit = refl; closes = λ _ still. inl still; crash = λ _ db found. inl found }
