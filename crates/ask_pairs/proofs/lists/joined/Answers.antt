use Rattle.std.proofs.Common.{sym, ◌∙◌, arith, rules}
use Rattle.std.proofs.Math.ListN.{drop_of_length-le}
use Rattle.ask_pairs.proofs.ListLemmas.{goes_on, stops_at, ends}
use Rattle.ask_pairs.proofs.lists.joined.Goals as goal

pub returns-in-None : goal.returns-in-None
returns-in-None g c = record {
  items = sym (stops_at g.T.Item.meant (λ part. part.now) c.loop-part.items c.deref-part-items.result.now c.loop-part.part-index _ _
      c.loop-part-test.true (sym c.in_ok-item.ensures.item ∙ c.in-None.is) c.loop-part.invariant);
}

pub loop-part-preserved : goal.loop-part-preserved
loop-part-preserved g c = rw c.in_ok-push-in-Some.ensures.ok (goes_on g.T.Item.meant (λ part. part.now) c.loop-part.items c.deref-part-items.result.now c.loop-part.part-index _ c.in-Some.item _
    c.loop-part-test.true (sym c.in_ok-item.ensures.item ∙ c.in-Some.is) c.loop-part.invariant)

pub returns : goal.returns
returns g c = record {
  items = sym (ends g.T.Item.meant (λ part. part.now) c.loop-part.items c.deref-part-items.result.now c.loop-part.part-index _
      (drop_of_length-le c.deref-part-items.result.now c.loop-part-test.false) c.loop-part.invariant);
}
