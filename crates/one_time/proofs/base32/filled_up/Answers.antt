use Rattle.std.proofs.Common.{◌∙◌, arith}
use Rattle.one_time.proofs.Regrouping.{some_missing}
use Rattle.one_time.proofs.base32.filled_up.Goals as goal

pub returns : goal.returns
returns c = record {
  ok = λ v n kept.
      c.into_digits-2.ensures.value ∙ some_missing v n c.args.bits.count c.take_in.new.self.count c.args.bits.held c.take_in.new.self.held
      c.args.bits.digits.items c.take_in.new.self.digits.items c.requires.ready (omega arith) c.in_ok-take_in.ensures.ready kept
      (c.in_ok-take_in.ensures.value v n kept);
}
