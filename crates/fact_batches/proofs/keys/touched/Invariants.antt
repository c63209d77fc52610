use Rattle.std.proofs.Common.{◌≡◌, [], take}
use Rattle.std.specs.List.{flat_map}
use Rattle.fact_batches.specs.Touched.{touched_by, all_noted}
use Rattle.fact_batches.proofs.keys.touched.Given as goal

abbrev pub invariant-loop-fact : goal.invariant-loop-fact
invariant-loop-fact g l = l.keys.items ≡ all_noted [] (flat_map (touched_by l.before) (take l.fact-index l.added))
