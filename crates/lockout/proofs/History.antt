-- What failures one after another come to.
use Rattle.std.proofs.Common.{◌≡◌, ℕ, ◌+◌, ◌-◌, ◌<◌, ◌≤◌, ◌^◌, false, ◌||◌, List, [], ◌∷◌, Option, None, Some, length, min, refl, ap, arith, ◌∙◌, nat_lt, IsTrue, ◌↔◌}
use Rattle.std.proofs.lemmas.Grind.{common_steps}
use Rattle.std.proofs.lemmas.Bool.Decides.{nat_tests}
use Rattle.lockout.specs.declared.policy.Mode.{Mode}
use Rattle.lockout.specs.declared.policy.Mode.TheVariants.{Temporary, Permanent}
use Rattle.lockout.specs.declared.policy.Policy.{Policy}
use Rattle.lockout.specs.declared.standing.Standing.{Standing}
use Rattle.lockout.specs.Policy.{IsPolicy}
use Rattle.lockout.specs.Standing.{is_locked, is_quick, no_failures, one_more, struck, struck_in, struck_permanent, standing_after}
use Rattle.lockout.proofs.Struck.{count_bound, few_until}

-- the standing of an account closed for good past a number of failures, after so many of them
record Counts (most failures : ℕ) (standing : Standing) : Type 0 where
  counted : standing.count ≡ min failures (2 ^ 32 - 1)
  closed : standing.permanent ≡ nat_lt most failures

past_either : (most failures : ℕ) → most ≤ 1000 → (nat_lt most failures || nat_lt most (one_more (min failures (2 ^ 32 - 1)))) ≡ nat_lt most (failures + 1)
past_either most failures small = grind (arith, nat_tests)

counts_in : (mode : Mode) (policy : Policy) (now failures : ℕ) (standing : Standing) → mode ≡ Permanent → policy.max_failures ≤ 1000 → Counts policy.max_failures failures standing → Counts policy.max_failures (failures + 1) (struck_in mode policy now standing)
unfolding struck_permanent
counts_in Temporary policy now failures standing e small before = cc
counts_in Permanent policy now failures standing e small before = record {
  counted = grind (arith, common_steps, before.counted);
  closed = rw (before.closed, before.counted) (past_either policy.max_failures failures small);
}

counts_struck : (policy : Policy) (now failures : ℕ) (standing : Standing) → policy.mode ≡ Permanent → policy.max_failures ≤ 1000 → Counts policy.max_failures failures standing → Counts policy.max_failures (failures + 1) (struck policy now standing)
unfolding struck
counts_struck policy now failures standing e small before = counts_in policy.mode policy now failures standing e small before

closed_from : (policy : Policy) (moments : List ℕ) (failures : ℕ) (standing : Standing) → policy.mode ≡ Permanent → policy.max_failures ≤ 1000 → Counts policy.max_failures failures standing → (standing_after policy standing moments).permanent ≡ nat_lt policy.max_failures (failures + length moments)
closed_from policy [] failures standing e small before = before.closed ∙ ap (nat_lt policy.max_failures) (omega arith)
closed_from policy (now ∷ moments) failures standing e small before =
    let next = closed_from policy moments (failures + 1) (struck policy now standing) e small (counts_struck policy now failures standing e small before) in
    next ∙ ap (nat_lt policy.max_failures) (omega arith)

-- In the permanent mode an account is closed by the failure past the greatest number of them, and by no earlier one.
pub closed_past : (policy : Policy) (moments : List ℕ) → IsPolicy policy → policy.mode ≡ Permanent → IsTrue (standing_after policy no_failures moments).permanent ↔ (policy.max_failures < length moments)
closed_past policy moments ranges e =
    let closed = closed_from policy moments 0 no_failures e ranges.max_failures.1 (record { counted = refl; closed = grind (arith, nat_tests) }) in
    grind (arith, nat_tests)

never_quick : (policy : Policy) (now : ℕ) (last : Option ℕ) → policy.quick_check ≡ 0 → is_quick policy now last ≡ false
never_quick policy now None off = refl
never_quick policy now (Some last) off = rw off (grind (arith, nat_tests))

open_from : (policy : Policy) (moments : List ℕ) (standing : Standing) → policy.quick_check ≡ 0 → standing.until ≡ 0 → standing.count + length moments < policy.max_failures → (standing_after policy standing moments).until ≡ 0
open_from policy [] standing off open_before few = open_before
open_from policy (now ∷ moments) standing off open_before few =
    let bound = count_bound policy now standing in
    open_from policy moments (struck policy now standing) off (few_until policy now standing (omega arith) (never_quick policy now standing.last off)) (omega arith)

-- Fewer failures than the greatest number of them lock nothing, where there is no quick check.
pub open_below : (policy : Policy) (moments : List ℕ) (later : ℕ) → policy.quick_check ≡ 0 → length moments < policy.max_failures → is_locked (standing_after policy no_failures moments) later ≡ false
open_below policy moments later off few =
    rw (open_from policy moments no_failures off refl (omega arith)) (grind (arith, nat_tests))
