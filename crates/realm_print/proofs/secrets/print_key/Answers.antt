use Rattle.std.proofs.Common.{arith}
use Rattle.toml.proofs.Views.{view-String}
use Rattle.one_time.specs.Base32.{base32_letters}
use Rattle.realm_fields.specs.Words.{otp_of}
use Rattle.realm_print.proofs.WordLemmas.{word_back, otp_known, otp_utf8}
use Rattle.realm_print.proofs.secrets.print_key.Goals as goal

pub unreachable-requires : goal.unreachable-requires
unreachable-requires c =
    let text = c.in_ok-base32_text.ensures.ok in
    let good = c.in-Err.ensures.succeeds (rw text (otp_utf8 c.args.key.now)) in
    absurd cc

pub returns-clause-read : goal.returns-clause-read
returns-clause-read c =
    let key = c.args.key.now in
    λ path. rw (view-String, c.in-Ok.ensures.ok, c.in_ok-base32_text.ensures.ok)
    (word_back otp_of (base32_letters key) key (otp_known key (λ j inside. let fits = c.type_inv.key j in omega (arith, fits)) c.requires) path)
