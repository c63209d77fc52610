use Rattle.std.proofs.Common.{◌+◌, ◌*◌, ◌^◌, take, sym, arith}
use Rattle.std.specs.Int.Digits.{number_from_digits}
use Rattle.std.proofs.lemmas.Int.Digits.{number_more}
use Rattle.one_time.proofs.Regrouping.{same_bits}
use Rattle.one_time.proofs.base32.regrouped_bytes.Goals as goal

pub bytes-init : goal.bytes-init
bytes-init c = record {
  ready = omega (arith, c.new-bits.ensures.count);
  held = c.new-bits.ensures.held;
  value = c.new-bits.ensures.value 5;
}

pub bytes-preserved : goal.bytes-preserved
bytes-preserved c =
    let i = c.bytes.byte-index in
    let front = number_from_digits (2 ^ 8) (take i c.args.bytes.now) in
    record {
      ready = c.in_ok-take_in.ensures.ready;
      held = c.in_ok-take_in.ensures.held;
      value = same_bits 5 c.take_in.new.self.count c.take_in.new.self.held _ (8 * i + 8)
          (number_from_digits (2 ^ 8) (take (i + 1) c.args.bytes.now)) (8 * (i + 1)) c.take_in.new.self.digits.items
          (sym (number_more (2 ^ 8) c.args.bytes.now i (omega arith))) (omega arith)
          (c.in_ok-take_in.ensures.value front (8 * i) c.bytes.invariant.value);
    }
