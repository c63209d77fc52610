use Rattle.std.specs.String.{string_bytes}
use Rattle.std.proofs.lemmas.Str.{IsUtf8-string_bytes}
use Rattle.toml.specs.View.{table_view}
use Rattle.realm_file.proofs.DocumentLemmas.{read_some}
use Rattle.realm_print.proofs.text.document_text.Goals as goal

pub returns-in-Ok : goal.returns-in-Ok
returns-in-Ok c =
    rw (c.from_vec.ensures.items, c.into_bytes.ensures.value)
    (read_some (string_bytes c.in-Ok.text) (table_view c.args.table.now) (IsUtf8-string_bytes c.in-Ok.text) (c.in-Ok.ensures.reads_back c.requires.deep))
