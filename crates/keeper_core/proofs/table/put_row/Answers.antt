use Rattle.std.proofs.Common.{◌≡◌, ℕ, true, sym, ap, ◌∙◌}
use Rattle.std.specs.Result.{is_ok}
use Rattle.std.specs.List.{insert}
use Rattle.keeper_rows.specs.Keys.{has_key, is_past}
use Rattle.keeper_rules.proofs.OrderLemmas.{inserted}
use Rattle.keeper_core.proofs.TableLemmas.{put_there, put_new}
use Rattle.keeper_core.proofs.table.put_row.Goals as goal

pub returns-in-Some-clause-items : goal.returns-in-Some-clause-items
returns-in-Some-clause-items g c =
    let key = g.R.Keyed.key c.args.row in
    put_there (has_key g.R.Key.Ord.cmp g.R.Keyed.key key) (is_past g.R.Key.Ord.cmp g.R.Keyed.key key) c.args.row c.args.rows.now.items c.in-Some.at
    (sym c.in-Some.is ∙ rw (← c.as_slice.ensures.value, ← c.key.ensures.key) c.place_of.ensures)

pub returns-in-None-clause-items : goal.returns-in-None-clause-items
returns-in-None-clause-items g c =
    let key = g.R.Keyed.key c.args.row in
    let test = has_key g.R.Key.Ord.cmp g.R.Keyed.key key in
    let past = is_past g.R.Key.Ord.cmp g.R.Keyed.key key in
    let fits : is_ok c.insert.result ≡ true = c.insert.ensures.succeeds c.requires.room in
    (rw fits at c.insert.ensures.items)
    ∙ ap (λ (at : ℕ). insert c.args.rows.now.items at c.args.row) (rw (← c.as_slice-in-None.ensures.value, ← c.key-in-None.ensures.key) c.place_past-at.ensures.place)
    ∙ inserted past c.args.row c.args.rows.now.items
    ∙ put_new test past c.args.row c.args.rows.now.items (sym c.in-None.is ∙ rw (← c.as_slice.ensures.value, ← c.key.ensures.key) c.place_of.ensures)
