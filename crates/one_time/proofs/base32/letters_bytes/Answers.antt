use Rattle.std.proofs.Common.{◌+◌, ◌*◌, ◌^◌, map, take, ap, ◌∙◌, sym, arith}
use Rattle.std.specs.Int.Digits.{number_from_digits}
use Rattle.one_time.specs.Base32.{digit_of}
use Rattle.one_time.proofs.Regrouping.{letter_more, same_bits, all_letter_bytes}
use Rattle.one_time.proofs.base32.letters_bytes.Goals as goal

pub letters-init : goal.letters-init
letters-init c = record {
  ready = omega (arith, c.new-bits.ensures.count);
  held = c.new-bits.ensures.held;
  value = c.new-bits.ensures.value 8;
}

pub letters-preserved : goal.letters-preserved
letters-preserved c =
    let i = c.letters.letter-index in
    let front = number_from_digits (2 ^ 5) (map digit_of (take i c.args.letters.now)) in
    record {
      ready = c.in_ok-take_in.ensures.ready;
      held = c.in_ok-take_in.ensures.held;
      value = same_bits 8 c.take_in.new.self.count c.take_in.new.self.held (front * 2 ^ 5 + c.digit_of.result) (5 * i + 5)
          (number_from_digits (2 ^ 5) (map digit_of (take (i + 1) c.args.letters.now))) (5 * (i + 1)) c.take_in.new.self.digits.items
          (ap (λ d. front * 2 ^ 5 + d) c.digit_of.ensures.value ∙ sym (letter_more i c.args.letters.now (omega arith))) (omega arith)
          (c.in_ok-take_in.ensures.value front (5 * i) c.letters.invariant.value);
    }

pub returns : goal.returns
returns c = record {
  ok = c.into_digits.ensures.value ∙ all_letter_bytes c.letters.letter-index c.letters.bits.count c.letters.bits.held c.args.letters.now c.letters.bits.digits.items
      (omega arith) c.letters.invariant.ready c.letters.invariant.value;
}
