-- What a query shows of a stored row: the key and the other columns.
use Rattle.std.specs.Prelude.{[], ◌∷◌}
use Rattle.sqlite.specs.Order.{Row, column}
use Rattle.sqlite.specs.Tree.{rowid}

abbrev pub account_shown : Row → Row
account_shown r = rowid r ∷ column r 2 ∷ column r 3 ∷ column r 4 ∷ column r 5 ∷ column r 6 ∷ column r 7 ∷ column r 8 ∷ column r 9 ∷ []

abbrev pub secret_shown : Row → Row
secret_shown r = rowid r ∷ column r 2 ∷ column r 3 ∷ column r 4 ∷ column r 5 ∷ []

abbrev pub mark_shown : Row → Row
mark_shown r = rowid r ∷ column r 2 ∷ column r 3 ∷ column r 4 ∷ []

abbrev pub realm_shown : Row → Row
realm_shown r = rowid r ∷ column r 2 ∷ []
