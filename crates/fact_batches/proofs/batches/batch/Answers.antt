use Rattle.std.proofs.Common.{◌≡◌, true, [], ◌∷◌, ◌++◌, rules}
use Rattle.keeper_rows.specs.declared.change.RowKey.TheVariants as keys
use Rattle.fact_rows.specs.Stored.{has_stored}
use Rattle.fact_batches.specs.Touched.{touched}
use Rattle.fact_batches.proofs.StoredLemmas.{batch_made}
use Rattle.fact_batches.proofs.batches.batch.Goals as goal

pub returns : goal.returns
returns g c =
    let stored : has_stored c.args.added.now ≡ true = search rules in
    let noted : c.as_slice.result.now ≡ touched c.args.before.now.list c.args.added.now ++ keys.Mark ∷ [] = search rules in
    let facts = c.with-after.ensures.facts in
    record { ok = batch_made c.args.moment c.args.before.now.list c.args.added.now _ _ _ stored noted facts c.in_ok-changes.ensures }
