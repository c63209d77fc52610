-- What a text is read as.
use Rattle.std.proofs.Common.{◌≡◌, ℕ, List, Ok, Err, Some, None, Bool, true, false, cond, refl}
use Rattle.std.specs.Str.{IsUtf8, is_utf8}
use Rattle.std.proofs.lemmas.Str.{IsUtf8-from_is_utf8, is_utf8-from_IsUtf8}
use Rattle.toml.specs.Data.{Members}
use Rattle.toml.specs.Parse.{parse_document}
use Rattle.realm_fields.specs.declared.fault.RealmFault.TheVariants.{NotToml}
use Rattle.realm_file.specs.RealmFile.{document_in, realm_in, realm_read}

-- a text that is TOML is read by its table
pub read_some : (bytes : List ℕ) (ms : Members) → IsUtf8 bytes → parse_document bytes ≡ Some ms → realm_read bytes ≡ realm_in ms
unfolding realm_read
read_some bytes ms utf8 h = rw (is_utf8-from_IsUtf8 bytes utf8, h) refl

-- another text is no TOML
pub read_none : (bytes : List ℕ) → (IsUtf8 bytes → parse_document bytes ≡ None) → realm_read bytes ≡ Err NotToml
unfolding realm_read
read_none bytes h = by_test (is_utf8 bytes) refl
  where
    by_test : (b : Bool) → is_utf8 bytes ≡ b → cond b (document_in (parse_document bytes)) (Err NotToml) ≡ Err NotToml
    by_test true e = rw (h (IsUtf8-from_is_utf8 bytes e)) refl
    by_test false e = refl
