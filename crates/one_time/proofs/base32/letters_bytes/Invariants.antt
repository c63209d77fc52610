use Rattle.std.proofs.Common.{◌*◌, ◌^◌, ◌<◌, take, map}
use Rattle.std.specs.Int.Digits.{number_from_digits}
use Rattle.one_time.specs.Base32.{IsRegrouped, digit_of}
use Rattle.one_time.proofs.base32.letters_bytes.Given as goal

abbrev pub invariant-letters : goal.invariant-letters
invariant-letters l = record {
  ready : l.bits.count < 8;
  held : l.bits.held < 2 ^ l.bits.count;
  value : IsRegrouped 8 l.bits.digits.items l.bits.held l.bits.count (number_from_digits (2 ^ 5) (map digit_of (take l.letter-index l.letters))) (5 * l.letter-index);
}
