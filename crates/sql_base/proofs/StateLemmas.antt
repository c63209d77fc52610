-- How a statement inside a transaction ends.
use Rattle.std.proofs.Common.{◌≡◌, ◌⊎◌, inl, inr, ℕ, List, Ok, Err, Result, IsTrue}
use Rattle.sqlite.specs.Order.{Row}
use Rattle.sqlite.specs.declared.error.Error.{Error}
use Rattle.sqlite.specs.State.{State, ExecutesInside}

-- a part that gave a value did not stop on the way
pub went : {B E R : Type 0} {b : B} {Stops : E → Type 0} → ((stop : E) × Stops stop × (Ok b ≡ Err stop)) ⊎ R → R
went (inl stopped) = absurd (let e = stopped.2 in cc)
went (inr on) = on

pub same_value : {B E : Type 0} {a b : B} → ◌≡◌ {A = Result B E} (Ok a) (Ok b) → a ≡ b
same_value e = cc

-- whatever comes of a statement, it commits nothing
pub keeps_commit : (sql : List ℕ) (params : Row) (old new : State) (r : Result ℕ Error) → ExecutesInside 0 sql params old new r → IsTrue new.is_open → new.committed ≡ old.committed
keeps_commit sql params old new (Ok count) h is_open = h.1.committed_is
keeps_commit sql params old new (Err e) (inl h) is_open = elim h.1 [ inl same ↦ same.0.committed_is | inr back ↦ (back.undone is_open).1 ]
keeps_commit sql params old new (Err e) (inr h) is_open = h.2.0.committed_is
