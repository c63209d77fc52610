use Rattle.std.proofs.Common.{◌≡◌, take}
use Rattle.std.specs.List.{flat_map}
use Rattle.fact_rows.specs.Due.{row_due}
use Rattle.fact_batches.specs.Batch.{drop_of, put_of}
use Rattle.fact_batches.proofs.batches.changes_to.Given as goal

abbrev pub invariant-loop-key : goal.invariant-loop-key
invariant-loop-key g l =
    (l.drops ≡ flat_map (λ key. drop_of key (row_due l.moment l.facts key)) (take l.key-index l.keys))
    × (l.puts ≡ flat_map (λ key. put_of (row_due l.moment l.facts key)) (take l.key-index l.keys))
