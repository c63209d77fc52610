-- What sessions and tokens are stored as.
use Rattle.std.specs.Prelude.{[], ◌∷◌}
use Rattle.sqlite.specs.declared.types.Value.TheVariants.{Int, Text}
use Rattle.sqlite.specs.Order.{Row, column}
use Rattle.sqlite.specs.Tree.{rowid}
use Rattle.sql_base.specs.Told.{text_at, number_at}
use Rattle.keeper_rows.specs.declared.rows.SessionRow.{SessionRow}
use Rattle.keeper_rows.specs.declared.rows.TokenRow.{TokenRow}

-- the columns in their order, the key first
abbrev pub session_values : SessionRow → Row
session_values row = Text row.id ∷ Int row.user ∷ Int row.opened ∷ Int row.seen ∷ Int row.idle ∷ Int row.max ∷ Text row.levels ∷ []

abbrev pub token_values : TokenRow → Row
token_values row = Text row.key ∷ Int row.user ∷ Text row.kind ∷ Int row.expiry ∷ Int row.spent ∷ []

-- what is shown of a stored row: its columns, and then its rowid
abbrev pub session_shown : Row → Row
session_shown r = column r 1 ∷ column r 2 ∷ column r 3 ∷ column r 4 ∷ column r 5 ∷ column r 6 ∷ column r 7 ∷ rowid r ∷ []

abbrev pub token_shown : Row → Row
token_shown r = column r 1 ∷ column r 2 ∷ column r 3 ∷ column r 4 ∷ column r 5 ∷ rowid r ∷ []

-- what such a row tells
abbrev pub session_in : Row → SessionRow
session_in shown = record {
  id = text_at shown 0;
  user = number_at shown 1;
  opened = number_at shown 2;
  seen = number_at shown 3;
  idle = number_at shown 4;
  max = number_at shown 5;
  levels = text_at shown 6;
}

abbrev pub token_in : Row → TokenRow
token_in shown = record {
  key = text_at shown 0;
  user = number_at shown 1;
  kind = text_at shown 2;
  expiry = number_at shown 3;
  spent = number_at shown 4;
}
