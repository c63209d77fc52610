use Rattle.std.proofs.Common.{◌+◌, ◌*◌, ◌^◌, arith}
use Rattle.one_time.proofs.Regrouping.{first_held, first_taken}
use Rattle.one_time.proofs.regrouped.Regrouped.take_in.Goals as goal

pub loop-self-init : goal.loop-self-init
loop-self-init c = record {
  small = omega arith;
  held = first_held c.args.self.now.held c.args.self.now.count c.args.bits c.args.digit c.pow.result c.from.result
      c.pow.ensures c.from.ensures c.requires.held c.requires.digit;
  value = λ v n kept. first_taken c.args.width c.args.self.now.count c.args.self.now.held c.args.bits c.args.digit v n c.pow.result c.from.result
      c.args.self.now.digits.items c.pow.ensures c.from.ensures c.requires.digit kept;
}

pub loop-self-preserved : goal.loop-self-preserved
loop-self-preserved c = record {
  small = omega (arith, c.in_ok-hand_out.ensures.count, c.loop-self.invariant.small);
  held = c.in_ok-hand_out.ensures.held;
  value = λ v n kept. c.in_ok-hand_out.ensures.value (v * 2 ^ c.args.bits + c.args.digit) (n + c.args.bits) (c.loop-self.invariant.value v n kept);
}
