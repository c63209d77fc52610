use Rattle.std.proofs.Common.{◌+◌, ◌%◌, refl, ap, ◌∙◌, sym, arith}
use Rattle.std.proofs.Math.Nat.{div-one}
use Rattle.std.proofs.lemmas.List.{length-set}
use Rattle.one_time.proofs.Decimals.{digit_more, digit_none, rest_more}
use Rattle.one_time.proofs.totp.decimal.Goals as goal

pub digits-init : goal.digits-init
digits-init c = record {
  size = refl;
  done = digit_none c.args.value;
  left = sym (div-one c.args.value);
}

pub digits-preserved : goal.digits-preserved
digits-preserved c = record {
  size = length-set c.digits.text _ _ ∙ c.digits.invariant.size;
  done = digit_more c.digits.text c.digits.i c.args.value (48 + c.digits.rest % 10) c.digits.invariant.size (omega arith) (ap (λ r. 48 + r % 10) c.digits.invariant.left) c.digits.invariant.done;
  left = rest_more c.args.value c.digits.i c.digits.rest c.digits.invariant.left;
}
