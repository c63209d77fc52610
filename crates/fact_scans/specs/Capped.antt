-- Counts that stay at the most that matters.
use Rattle.std.specs.Prelude.{ℕ, ◌+◌, min, Bool, if◌then◌else◌}

-- one more where there is one
abbrev pub one_more : ℕ → Bool → ℕ → ℕ
one_more most is n = if is then min (n + 1) most else n
