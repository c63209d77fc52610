use Rattle.std.proofs.Common.{refl}
use Rattle.realm_print.proofs.FieldLemmas.{members_view-insert}
use Rattle.realm_print.proofs.tables.put.Goals as goal

pub returns : goal.returns
returns c = rw (c.in_ok-insert.ensures.entries, members_view-insert, c.in_ok-key.ensures.ok) refl
