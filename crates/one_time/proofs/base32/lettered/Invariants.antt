use Rattle.std.proofs.Common.{◌≡◌, ◌%◌, ◌++◌, take, drop, map}
use Rattle.one_time.specs.Base32.{letter_of}
use Rattle.one_time.proofs.base32.lettered.Given as goal

abbrev pub invariant-digits : goal.invariant-digits
invariant-digits l = l.digit-items ≡ map (λ digit. letter_of (digit % 32)) (take l.digit-index l.fn.digits.items) ++ drop l.digit-index l.fn.digits.items
