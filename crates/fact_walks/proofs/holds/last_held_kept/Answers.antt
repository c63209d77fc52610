use Rattle.std.proofs.Common.{refl, Some, None, arith}
use Rattle.fact_walks.proofs.Backwards.{found_back, missed_back}
use Rattle.fact_walks.proofs.holds.last_held_kept.Goals as goal

pub returns-in-Some : goal.returns-in-Some
returns-in-Some g c =
    found_back (g.P.Hold.held c.args.hold.now) c.args.chronicle.now.list c.loop-end.end (Some c.in-Some.held.now)
    c.loop-end-test.true c.in-Some.ensures c.loop-end.invariant.later refl

pub loop-end-preserved : goal.loop-end-preserved
loop-end-preserved g c = record {
  within = omega arith;
  later =
      missed_back (g.P.Hold.held c.args.hold.now) c.args.chronicle.now.list c.loop-end.end None
      c.loop-end-test.true c.in_default.ensures c.loop-end.invariant.later refl;
}
