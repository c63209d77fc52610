use Rattle.std.proofs.Common.{refl, ap, ◌∙◌, ◌%◌, ◌-◌, arith}
use Rattle.std.proofs.Math.ListN.{length-set}
use Rattle.login_base.specs.IdText.{hex_text, hex_digit}
use Rattle.login_base.proofs.HexText.{next_digit, one_more}
use Rattle.login_base.proofs.id.hex.Goals as goal

pub loop-i-init : goal.loop-i-init
unfolding hex_text
loop-i-init c = record { len = refl; rest = omega arith; done = refl }

pub loop-i-preserved : goal.loop-i-preserved
loop-i-preserved c = record {
  len = length-set c.loop-i.out (15 - c.loop-i.i) c.digit.result ∙ c.loop-i.invariant.len;
  rest = next_digit c.args.n c.loop-i.i c.loop-i.rest c.loop-i.invariant.rest;
  done = one_more c.loop-i.out c.loop-i.i c.args.n c.digit.result c.loop-i.invariant.len (omega arith) (c.digit.ensures ∙ ap (λ r. hex_digit (r % 16)) c.loop-i.invariant.rest) c.loop-i.invariant.done;
}
