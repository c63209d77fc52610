use Rattle.toml.proofs.Views.{view-String}
use Rattle.hex.specs.Hex.{encode_lower}
use Rattle.realm_fields.specs.Words.{digest_of}
use Rattle.realm_print.proofs.WordLemmas.{word_back, digest_known}
use Rattle.realm_print.proofs.secrets.ArrayU832Prints.print.Goals as goal

pub returns-clause-read : goal.returns-clause-read
returns-clause-read c =
    let digest = c.args.self.now in
    λ path. rw (view-String, c.in_ok-encode.ensures, c.as_slice.ensures)
    (word_back digest_of (encode_lower digest) digest (digest_known digest c.fits-self c.requires) path)
