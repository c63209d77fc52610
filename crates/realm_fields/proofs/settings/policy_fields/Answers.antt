use Rattle.std.proofs.Common.{refl}
use Rattle.std.proofs.lemmas.Result.{err_from_is_err_and}
use Rattle.realm_fields.specs.Settings.{policy_fields}
use Rattle.realm_fields.proofs.RangeLemmas.{failed}
use Rattle.realm_fields.proofs.settings.policy_fields.Goals as goal

pub returns-in_err-number_at-5-clause-gives : goal.returns-in_err-number_at-5-clause-gives
unfolding policy_fields
returns-in_err-number_at-5-clause-gives c =
    let p = err_from_is_err_and c.from_residual-in_err-number_at-5.result c.from_residual-in_err-number_at-5.ensures.1 in
    rw (
      p.1,
      p.2,
      c.in_ok-check_policy_keys.ensures,
      c.in_ok-required.ensures.gives,
      c.in_ok-number_at.ensures.gives,
      c.in_ok-number_at-2.ensures.gives,
      c.in_ok-number_at-3.ensures.gives,
      c.in_ok-number_at-4.ensures.gives,
    ) (failed _ _ _ c.in_err-number_at-5.ensures.gives)

pub returns-in_err-number_at-6-clause-gives : goal.returns-in_err-number_at-6-clause-gives
unfolding policy_fields
returns-in_err-number_at-6-clause-gives c =
    let p = err_from_is_err_and c.from_residual-in_err-number_at-6.result c.from_residual-in_err-number_at-6.ensures.1 in
    rw (
      p.1,
      p.2,
      c.in_ok-check_policy_keys.ensures,
      c.in_ok-required.ensures.gives,
      c.in_ok-number_at.ensures.gives,
      c.in_ok-number_at-2.ensures.gives,
      c.in_ok-number_at-3.ensures.gives,
      c.in_ok-number_at-4.ensures.gives,
      c.in_ok-number_at-5.ensures.gives,
    ) (failed _ _ _ c.in_err-number_at-6.ensures.gives)

pub returns-clause-gives : goal.returns-clause-gives
unfolding policy_fields
returns-clause-gives c =
    rw (
      c.in_ok-check_policy_keys.ensures,
      c.in_ok-required.ensures.gives,
      c.in_ok-number_at.ensures.gives,
      c.in_ok-number_at-2.ensures.gives,
      c.in_ok-number_at-3.ensures.gives,
      c.in_ok-number_at-4.ensures.gives,
      c.in_ok-number_at-5.ensures.gives,
      c.in_ok-number_at-6.ensures.gives,
    ) refl
