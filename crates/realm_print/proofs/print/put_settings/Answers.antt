use Rattle.std.proofs.Common.{◌∙◌, refl}
use Rattle.std.proofs.lemmas.Result.{on_ok_weaker}
use Rattle.toml.specs.View.{view}
use Rattle.realm_data.proofs.RealmRules.{numbers_kept}
use Rattle.realm_print.proofs.print.put_settings.Goals as goal

pub print-requires : goal.print-requires
print-requires c = (numbers_kept c.args.parts.now c.requires).session

pub print-requires-2 : goal.print-requires-2
print-requires-2 c = (numbers_kept c.args.parts.now c.requires).otp

pub print-requires-3 : goal.print-requires-3
print-requires-3 c = (numbers_kept c.args.parts.now c.requires).lockout

pub returns : goal.returns
returns c =
    let numbers = numbers_kept c.args.parts.now c.requires in
    on_ok_weaker c.put-5.result (λ last. record {
      session = view c.in_ok-print.field-0;
      password = view c.in_ok-password.password;
      otp = view c.in_ok-print-2.field-0;
      recovery = view c.in_ok-recovery.recovery;
      lockout = view c.in_ok-print-3.field-0;
      members = last ∙ rw (c.in_ok-put-4.ensures, c.in_ok-put-3.ensures, c.in_ok-put-2.ensures, c.in_ok-put.ensures) refl;
      session_read = c.in_ok-print.ensures.read;
      password_read = c.in_ok-password.ensures.read 1 2000000 numbers.iterations;
      otp_read = c.in_ok-print-2.ensures.read;
      recovery_read = c.in_ok-recovery.ensures.read 1 16 numbers.recovery_count;
      lockout_read = c.in_ok-print-3.ensures.read;
      session_plain = c.in_ok-print.ensures.plain;
      password_plain = c.in_ok-password.ensures.plain;
      otp_plain = c.in_ok-print-2.ensures.plain;
      recovery_plain = c.in_ok-recovery.ensures.plain;
      lockout_plain = c.in_ok-print-3.ensures.plain;
    }) c.put-5.ensures
