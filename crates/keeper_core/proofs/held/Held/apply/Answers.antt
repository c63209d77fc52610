use Rattle.std.proofs.Common.{◌∷◌, [], length, append_assoc, sym, ap, ◌∙◌}
use Rattle.std.specs.Vec.Iter.{into_iter_items}
use Rattle.keeper_rows.specs.Applied.{changed}
use Rattle.keeper_core.proofs.TableLemmas.{applied-push, one_longer}
use Rattle.keeper_core.proofs.held.Held.apply.Goals as goal

pub loop-change-preserved : goal.loop-change-preserved
loop-change-preserved c =
    let rest = into_iter_items c.next.new.self in
    let steps = c.in-Some.ensures.steps.0 in
    let room = rw steps at c.loop-change.invariant.room in
    record {
      next = tt;
      finite = tt;
      all = append_assoc c.loop-change.yielded (c.in-Some.change ∷ []) rest ∙ (rw steps at c.loop-change.invariant.all);
      room = c.change.ensures.room (length rest) (rw (one_longer c.in-Some.change rest) at room);
      rows = c.change.ensures.rows ∙ ap (λ t. changed t c.in-Some.change) c.loop-change.invariant.rows ∙ sym (applied-push c.loop-change.yielded c.in-Some.change _);
    }
