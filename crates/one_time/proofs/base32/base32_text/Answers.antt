use Rattle.std.proofs.Common.{◌*◌, ◌^◌, length}
use Rattle.std.specs.Int.Digits.{number_from_digits}
use Rattle.one_time.proofs.Spelling.{text_made}
use Rattle.one_time.proofs.base32.base32_text.Goals as goal

pub returns : goal.returns
returns c = record {
  ok = text_made c.args.bytes.now c.in_ok-filled_up.field-0.items c.lettered.result.items
      (c.in_ok-filled_up.ensures.ok (number_from_digits (2 ^ 8) c.args.bytes.now) (8 * length c.args.bytes.now) c.in_ok-bits.ensures.value)
      c.lettered.ensures.value;
}
