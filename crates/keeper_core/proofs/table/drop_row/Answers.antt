use Rattle.std.proofs.Common.{sym, ◌∙◌}
use Rattle.keeper_rows.specs.Keys.{has_key}
use Rattle.keeper_core.proofs.TableLemmas.{dropped_there, dropped_nowhere}
use Rattle.keeper_core.proofs.table.drop_row.Goals as goal

pub returns-in-Some-clause-items : goal.returns-in-Some-clause-items
returns-in-Some-clause-items g c =
    c.remove-row.ensures.items
    ∙ dropped_there (has_key g.R.Key.Ord.cmp g.R.Keyed.key c.args.key.now) c.args.rows.now.items c.in-Some.at
    (sym c.in-Some.is ∙ rw (← c.as_slice.ensures.value) c.place_of.ensures)

pub returns-in_default-clause-items : goal.returns-in_default-clause-items
returns-in_default-clause-items g c =
    dropped_nowhere (has_key g.R.Key.Ord.cmp g.R.Keyed.key c.args.key.now) c.args.rows.now.items
    (sym c.in_default.is ∙ rw (← c.as_slice.ensures.value) c.place_of.ensures)
