use Rattle.std.proofs.Common.{rules}
use Rattle.std.proofs.Math.ListN.{drop_of_length-le}
use Rattle.web_requests.specs.Cookies.{part_root}
use Rattle.web_requests.proofs.CookieLemmas.{found, goes_on, ends}
use Rattle.web_requests.proofs.cookie.parts_root.Goals as goal

pub returns-then-is_some : goal.returns-then-is_some
returns-then-is_some c = record { root = found part_root (λ part. part.now) c.args.parts.now c.loop-part.part-index _ c.part_root-root.result _ c.loop-part-test.true c.part_root-root.ensures (search rules) c.loop-part.invariant }

pub loop-part-preserved : goal.loop-part-preserved
loop-part-preserved c = goes_on part_root (λ part. part.now) c.args.parts.now c.loop-part.part-index _ c.part_root-root.result _ c.loop-part-test.true c.part_root-root.ensures (search rules) c.loop-part.invariant

pub returns : goal.returns
returns c = record { root = ends part_root (λ part. part.now) c.args.parts.now c.loop-part.part-index _ (drop_of_length-le c.args.parts.now c.loop-part-test.false) c.loop-part.invariant }
