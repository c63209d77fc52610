use Rattle.std.proofs.Common.{◌≡◌, ◌-◌, ◌/◌, ◌^◌, drop, length}
use Rattle.one_time.specs.Hotp.{decimal_text}
use Rattle.one_time.proofs.totp.decimal.Given as goal

abbrev pub invariant-digits : goal.invariant-digits
invariant-digits l = record {
  size : length l.text ≡ 8;
  done : drop (8 - l.i) l.text ≡ decimal_text l.i l.value;
  left : l.rest ≡ l.value / 10 ^ l.i;
}
