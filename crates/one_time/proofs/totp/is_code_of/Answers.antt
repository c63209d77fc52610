use Rattle.std.proofs.Common.{ap, ◌∙◌, arith}
use Rattle.std.specs.Str.{bytes_eq}
use Rattle.one_time.specs.Hotp.{hotp, is_code_of}
use Rattle.one_time.proofs.Decimals.{last_part}
use Rattle.one_time.proofs.totp.is_code_of.Goals as goal

pub returns : goal.returns
unfolding is_code_of
returns c = record {
  value = c.eq.ensures ∙ ap (bytes_eq c.args.code.now)
      (last_part c.args.digits c.totp_at.result (hotp c.args.key.now c.args.step c.args.digits) c.decimal-text.result
      (omega arith) c.decimal-text.ensures.value c.totp_at.ensures.value);
}
