-- The ranges of a lockout policy's numbers, those of a realm file.
use Rattle.std.specs.Prelude.{ℕ, ◌≤◌}
use Rattle.lockout.specs.declared.policy.Policy.{Policy}

-- from the least to the greatest, both included
abbrev pub IsWithin : ℕ → ℕ → ℕ → Type 0
IsWithin least greatest number = (least ≤ number) × (number ≤ greatest)

-- every number lies in its range: a count of failures, seconds, and for the quick check milliseconds
pub record IsPolicy (policy : Policy) : Type 0 where
  pub max_failures : IsWithin 1 1000 policy.max_failures
  pub wait_increment : IsWithin 1 86400 policy.wait_increment
  pub max_wait : IsWithin 1 86400 policy.max_wait
  pub failure_reset : IsWithin 1 31536000 policy.failure_reset
  pub quick_check : policy.quick_check ≤ 60000
  pub quick_wait : policy.quick_wait ≤ 86400
