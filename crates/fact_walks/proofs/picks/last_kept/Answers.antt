use Rattle.std.proofs.Common.{sym, ◌∙◌, arith}
use Rattle.fact_walks.proofs.Backwards.{found_back, missed_back}
use Rattle.fact_walks.proofs.picks.last_kept.Goals as goal

pub returns-then-is_some : goal.returns-then-is_some
returns-then-is_some g c =
    found_back (g.P.Pick.pick c.args.pick.now) c.args.chronicle.now.list c.loop-end.end c.picked_at-found.result
    c.loop-end-test.true c.picked_at-found.ensures c.loop-end.invariant.later (sym c.is_some.ensures ∙ c.if-is_some.true)

pub loop-end-preserved : goal.loop-end-preserved
loop-end-preserved g c = record {
  within = omega arith;
  later =
      missed_back (g.P.Pick.pick c.args.pick.now) c.args.chronicle.now.list c.loop-end.end c.picked_at-found.result
      c.loop-end-test.true c.picked_at-found.ensures c.loop-end.invariant.later (sym c.is_some.ensures ∙ c.if-is_some.false);
}
