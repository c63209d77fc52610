use Rattle.std.proofs.Common.{Some, ap, sym, ◌∙◌, arith}
use Rattle.login_base.proofs.HexText.{fits_word, digit_fits, digit_step, no_digit, no_more}
use Rattle.login_base.proofs.id.read_hex.Goals as goal

pub overflow_mul-n : goal.overflow_mul-n
overflow_mul-n c = omega (arith, fits_word c.loop-b.n c.loop-b.b-index c.loop-b.invariant.below (omega arith))

pub overflow_add-n : goal.overflow_add-n
overflow_add-n c = omega (arith, fits_word c.loop-b.n c.loop-b.b-index c.loop-b.invariant.below (omega arith), c.in_ok-value.ensures.below)

pub returns-in_err-value : goal.returns-in_err-value
returns-in_err-value c = c.from_residual.ensures ∙ sym (no_digit c.args.text.now c.loop-b.b-index c.loop-b.n c.loop-b-test.true (sym c.in_err-value.ensures.value)) ∙ c.loop-b.invariant.same

pub loop-b-preserved : goal.loop-b-preserved
loop-b-preserved c = record {
  below = digit_fits c.loop-b.n c.loop-b.b-index c.from.result c.loop-b.invariant.below (omega (arith, c.in_ok-value.ensures.below));
  same = sym (digit_step c.args.text.now c.loop-b.b-index c.loop-b.n c.from.result c.loop-b-test.true (sym c.in_ok-value.ensures.value ∙ ap Some (sym c.from.ensures))) ∙ c.loop-b.invariant.same;
}

pub returns : goal.returns
returns c = sym (no_more c.args.text.now c.loop-b.b-index c.loop-b.n c.loop-b-test.false) ∙ c.loop-b.invariant.same
