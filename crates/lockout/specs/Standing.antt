-- How failures change the standing of an account.
use Rattle.std.specs.Prelude.{ℕ, ◌+◌, ◌-◌, ◌*◌, ◌/◌, ◌^◌, Bool, false, ◌==◌, ◌&&◌, ◌||◌, List, Option, Some, None, if◌then◌else◌, fold, nat_lt, min}
use Rattle.lockout.specs.declared.policy.Mode.{Mode}
use Rattle.lockout.specs.declared.policy.Mode.TheVariants.{Temporary, Permanent}
use Rattle.lockout.specs.declared.policy.Policy.{Policy}
use Rattle.lockout.specs.declared.standing.Standing.{Standing}

-- the standing of an account with no failure
abbrev pub no_failures : Standing
no_failures = record { count = 0; last = None; until = 0; permanent = false }

abbrev pub is_locked : Standing → ℕ → Bool
is_locked standing now = nat_lt now standing.until

-- there was a failure, longer ago than failures are remembered
abbrev pub is_forgotten : Policy → ℕ → Option ℕ → Bool
is_forgotten policy now None = false
is_forgotten policy now (Some last) = nat_lt (1000 * policy.failure_reset) (now - last)

-- there was a failure, less than the quick check's time ago
abbrev pub is_quick : Policy → ℕ → Option ℕ → Bool
is_quick policy now None = false
is_quick policy now (Some last) = nat_lt (now - last) policy.quick_check

-- one more failure; the count stays at the greatest that it can hold
abbrev pub one_more : ℕ → ℕ
one_more count = min (count + 1) (2 ^ 32 - 1)

-- In the temporary mode the count rises, unless the last failure is forgotten, which starts it again. Each full
-- `max_failures` of it wait one increment. A quick failure that would wait none waits the quick wait. No wait is
-- longer than the longest one; where there is none, nothing is locked.
unfoldable pub struck_temporary : Policy → ℕ → Standing → Standing
struck_temporary policy now standing =
    let remembered = if is_forgotten policy now standing.last then 0 else standing.count in
    let count = one_more remembered in
    let increments = policy.wait_increment * (count / policy.max_failures) in
    let wait = if increments == 0 && is_quick policy now standing.last then policy.quick_wait else increments in
    let until = if wait == 0 then 0 else now + 1000 * min wait policy.max_wait in
    record standing { count = count; last = Some now; until = until }

-- In the permanent mode time forgets nothing. A count past `max_failures` closes the account for good, which needs
-- no lock; any other failure locks for the quick wait where it is a quick one.
unfoldable pub struck_permanent : Policy → ℕ → Standing → Standing
struck_permanent policy now standing =
    let count = one_more standing.count in
    let past = nat_lt policy.max_failures count in
    let wait = if is_quick policy now standing.last then policy.quick_wait else 0 in
    let until = if past || wait == 0 then 0 else now + 1000 * wait in
    record { count = count; last = Some now; until = until; permanent = standing.permanent || past }

abbrev pub struck_in : Mode → Policy → ℕ → Standing → Standing
struck_in Temporary = struck_temporary
struck_in Permanent = struck_permanent

-- the standing after a failure at this moment
unfoldable pub struck : Policy → ℕ → Standing → Standing
struck policy now standing = struck_in policy.mode policy now standing

-- the standing after failures at these moments, one after another
abbrev pub standing_after : Policy → Standing → List ℕ → Standing
standing_after policy standing moments = fold (λ before now. struck policy now before) standing moments
