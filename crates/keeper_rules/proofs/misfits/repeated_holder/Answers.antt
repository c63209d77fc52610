use Rattle.std.proofs.Common.{◌≡◌, ℕ, Option, subst, ◌∙◌, arith}
use Rattle.std.specs.Prelude.{IfOk, ◌==◌, ◌&&◌}
use Rattle.std.specs.Ordering.{is_eq}
use Rattle.std.proofs.lemmas.Bool.Decides.{nat_tests}
use Rattle.keeper_rules.specs.declared.holder.Holder.{Holder}
use Rattle.keeper_rules.specs.contracts.holder.HolderOrd.TheImpl as order
use Rattle.keeper_rules.specs.Misfits.{same_holder, repeated_holder, holder_of}
use Rattle.keeper_rules.proofs.RepeatLemmas.{repeats_by}
use Rattle.keeper_rules.proofs.misfits.repeated_holder.Goals as goal

told : (a b : Holder) → (a.user == b.user && a.kind == b.kind) ≡ is_eq (order.ghosts.cmp a b)
told a b = grind (arith, nat_tests)

pub returns-clause-ok : goal.returns-clause-ok
unfolding repeated_holder
returns-clause-ok c =
    let same = repeats_by (λ (a b : Holder). is_eq (order.ghosts.cmp a b)) same_holder holder_of (λ a b. told (holder_of a) (holder_of b)) c.as_slice.result.now c.args.secrets.now (c.as_slice.ensures.value ∙ c.in_ok-holders.ensures) in
    subst (λ (place : Option ℕ). IfOk c.first_repeat.result (λ p. p ≡ place)) same c.first_repeat.ensures.ok
