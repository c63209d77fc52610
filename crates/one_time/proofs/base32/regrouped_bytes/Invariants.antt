use Rattle.std.proofs.Common.{◌*◌, ◌^◌, ◌<◌, take}
use Rattle.std.specs.Int.Digits.{number_from_digits}
use Rattle.one_time.specs.Base32.{IsRegrouped}
use Rattle.one_time.proofs.base32.regrouped_bytes.Given as goal

abbrev pub invariant-bytes : goal.invariant-bytes
invariant-bytes l = record {
  ready : l.bits.count < 5;
  held : l.bits.held < 2 ^ l.bits.count;
  value : IsRegrouped 5 l.bits.digits.items l.bits.held l.bits.count (number_from_digits (2 ^ 8) (take l.byte-index l.bytes)) (8 * l.byte-index);
}
