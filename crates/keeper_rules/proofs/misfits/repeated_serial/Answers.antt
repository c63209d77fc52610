use Rattle.std.proofs.Common.{◌≡◌, ℕ, Option, subst, arith, rules}
use Rattle.std.specs.Prelude.{IfOk}
use Rattle.std.specs.Ordering.{is_eq, nat_cmp}
use Rattle.std.proofs.lemmas.Bool.Decides.{nat_tests}
use Rattle.keeper_rules.specs.declared.stamp.Stamp.{Stamp}
use Rattle.keeper_rules.specs.Misfits.{same_serial, repeated_serial}
use Rattle.keeper_rules.proofs.RepeatLemmas.{repeats_by}
use Rattle.keeper_rules.proofs.misfits.repeated_serial.Goals as goal

pub returns-clause-ok : goal.returns-clause-ok
unfolding repeated_serial
returns-clause-ok c =
    let same = repeats_by (λ (a b : ℕ). is_eq (nat_cmp a b)) same_serial (λ (s : Stamp). s.serial) (λ a b. grind (arith, nat_tests)) c.as_slice.result.now c.args.stamps.now (search rules) in
    subst (λ (place : Option ℕ). IfOk c.first_repeat.result (λ p. p ≡ place)) same c.first_repeat.ensures.ok
