use Rattle.std.proofs.Common.{arith}
use Rattle.toml.proofs.Views.{view-String}
use Rattle.hex.specs.Hex.{encode_lower}
use Rattle.realm_fields.specs.Words.{salt_of}
use Rattle.realm_print.proofs.WordLemmas.{word_back, salt_known}
use Rattle.realm_print.proofs.secrets.print_salt.Goals as goal

pub returns-clause-read : goal.returns-clause-read
returns-clause-read c =
    let salt = c.args.salt.now in
    λ path. rw (view-String, c.in_ok-encode.ensures)
    (word_back salt_of (encode_lower salt) salt (salt_known salt (λ j. let fits = c.type_inv.salt j in omega (arith, fits)) c.requires) path)
