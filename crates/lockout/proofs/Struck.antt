-- What holds of the standing after a failure, whatever it was before.
use Rattle.std.proofs.Common.{◌≡◌, ℕ, ◌+◌, ◌*◌, ◌/◌, ◌<◌, ◌≤◌, true, false, Some, max, refl, arith, IsTrue}
use Rattle.std.proofs.lemmas.Grind.{common_steps}
use Rattle.std.proofs.lemmas.Bool.Decides.{nat_tests}
use Rattle.std.proofs.Math.Nat.{div-eq_of_lt}
use Rattle.lockout.specs.declared.policy.Mode.{Mode}
use Rattle.lockout.specs.declared.policy.Mode.TheVariants.{Temporary, Permanent}
use Rattle.lockout.specs.declared.policy.Policy.{Policy}
use Rattle.lockout.specs.declared.standing.Standing.{Standing}
use Rattle.lockout.specs.Standing.{is_locked, is_quick, struck, struck_in, struck_temporary, struck_permanent}

last_in : (mode : Mode) (policy : Policy) (now : ℕ) (standing : Standing) → (struck_in mode policy now standing).last ≡ Some now
unfolding struck_temporary struck_permanent
last_in Temporary policy now standing = refl
last_in Permanent policy now standing = refl

pub last_moment : (policy : Policy) (now : ℕ) (standing : Standing) → (struck policy now standing).last ≡ Some now
unfolding struck
last_moment policy now standing = last_in policy.mode policy now standing

until_in : (mode : Mode) (policy : Policy) (now : ℕ) (standing : Standing) → (struck_in mode policy now standing).until ≤ now + 1000 * max policy.max_wait policy.quick_wait
unfolding struck_temporary struck_permanent
until_in Temporary policy now standing = grind (arith, common_steps)
until_in Permanent policy now standing = grind (arith, common_steps)

until_bound : (policy : Policy) (now : ℕ) (standing : Standing) → (struck policy now standing).until ≤ now + 1000 * max policy.max_wait policy.quick_wait
unfolding struck
until_bound policy now standing = until_in policy.mode policy now standing

-- a lock ends once the greater of the two waits has gone by
pub lock_ends : (policy : Policy) (now : ℕ) (standing : Standing) (later : ℕ) → IsTrue (is_locked (struck policy now standing) later) → later < now + 1000 * max policy.max_wait policy.quick_wait
lock_ends policy now standing later locked =
    let bound = until_bound policy now standing in
    grind (arith, nat_tests)

no_increment : (increment count most : ℕ) → count < most → increment * (count / most) ≡ 0
no_increment increment count most few = rw (div-eq_of_lt few) (omega arith)

few_in : (mode : Mode) (policy : Policy) (now : ℕ) (standing : Standing) → (struck_in mode policy now standing).count < policy.max_failures → is_quick policy now standing.last ≡ false → (struck_in mode policy now standing).until ≡ 0
unfolding struck_temporary struck_permanent
few_in Temporary policy now standing few slow = grind (arith, common_steps, no_increment)
few_in Permanent policy now standing few slow = grind (arith, common_steps)

pub few_until : (policy : Policy) (now : ℕ) (standing : Standing) → (struck policy now standing).count < policy.max_failures → is_quick policy now standing.last ≡ false → (struck policy now standing).until ≡ 0
unfolding struck
few_until policy now standing few slow = few_in policy.mode policy now standing few slow

-- a count below the greatest number of failures locks nothing, where the quick check does not
pub few_open : (policy : Policy) (now : ℕ) (standing : Standing) (later : ℕ) → (struck policy now standing).count < policy.max_failures → is_quick policy now standing.last ≡ false → is_locked (struck policy now standing) later ≡ false
few_open policy now standing later few slow = rw (few_until policy now standing few slow) (grind (arith, nat_tests))

closed_in : (mode : Mode) (policy : Policy) (now : ℕ) (standing : Standing) → standing.permanent ≡ true → (struck_in mode policy now standing).permanent ≡ true
unfolding struck_temporary struck_permanent
closed_in Temporary policy now standing closed = closed
closed_in Permanent policy now standing closed = rw closed refl

-- a failure opens nothing that was closed for good
pub stays_closed : (policy : Policy) (now : ℕ) (standing : Standing) → standing.permanent ≡ true → (struck policy now standing).permanent ≡ true
unfolding struck
stays_closed policy now standing closed = closed_in policy.mode policy now standing closed

count_in : (mode : Mode) (policy : Policy) (now : ℕ) (standing : Standing) → (struck_in mode policy now standing).count ≤ standing.count + 1
unfolding struck_temporary struck_permanent
count_in Temporary policy now standing = grind (arith, common_steps)
count_in Permanent policy now standing = grind (arith, common_steps)

-- a failure raises the count by one at most
pub count_bound : (policy : Policy) (now : ℕ) (standing : Standing) → (struck policy now standing).count ≤ standing.count + 1
unfolding struck
count_bound policy now standing = count_in policy.mode policy now standing

temporary_in : (mode : Mode) (policy : Policy) (now : ℕ) (standing : Standing) → mode ≡ Temporary → (struck_in mode policy now standing).permanent ≡ standing.permanent
unfolding struck_temporary
temporary_in Temporary policy now standing e = refl
temporary_in Permanent policy now standing e = cc

-- in the temporary mode nothing is closed for good
pub temporary_closes_nothing : (policy : Policy) (now : ℕ) (standing : Standing) → policy.mode ≡ Temporary → (struck policy now standing).permanent ≡ standing.permanent
unfolding struck
temporary_closes_nothing policy now standing e = temporary_in policy.mode policy now standing e
