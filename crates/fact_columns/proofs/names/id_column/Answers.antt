use Rattle.std.proofs.Common.{subst, sym}
use Rattle.std.specs.Str.{IsUtf8}
use Rattle.fact_columns.proofs.NameLemmas.{id_utf8}
use Rattle.fact_columns.proofs.names.id_column.Goals as goal

pub unreachable-requires : goal.unreachable-requires
unreachable-requires c = c.in-Err.ensures.cases.0 (subst IsUtf8 (sym c.id_text.ensures.text) (id_utf8 c.args.id.now))
