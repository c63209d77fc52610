use Rattle.std.proofs.Common.{sym, refl, arith}
use Rattle.std.proofs.lemmas.Result.{err_from_is_err_and}
use Rattle.std.proofs.lemmas.List.{length-append}
use Rattle.std.proofs.lemmas.List.Folds.{list_all-append}
use Rattle.std.proofs.Math.ListN.{drop_of_length-le}
use Rattle.realm_fields.proofs.ItemLemmas.{goes_on, stops_at, ends}
use Rattle.realm_fields.proofs.items.read_items.Goals as goal

pub returns-in_err-item-clause-gives : goal.returns-in_err-item-clause-gives
returns-in_err-item-clause-gives g c =
    let p = err_from_is_err_and c.from_residual.result c.from_residual.ensures.1 in
    rw (p.1, p.2) (stops_at c.in_err-item.field-0.0 g.T.Reads.meant c.args.path.now c.values.items c.args.values.now c.values.i c.index-values-i.result _
    c.values-test.true (sym c.index-values-i.is) c.in_err-item.ensures.gives c.values.invariant.told)

pub values-preserved : goal.values-preserved
values-preserved g c =
    let item = c.in_ok-item.item in
    record {
      told = rw c.in_ok-push.ensures.ok (goes_on g.T.Reads.meant c.args.path.now c.values.items c.args.values.now c.values.i c.index-values-i.result item _
          c.values-test.true (sym c.index-values-i.is) c.in_ok-item.ensures.gives c.values.invariant.told);
      fits = rw (c.in_ok-push.ensures.ok, list_all-append, c.values.invariant.fits, c.in_ok-item.ensures.fits) refl;
      len = rw (c.in_ok-push.ensures.ok, length-append) (omega (arith, c.values.invariant.len));
    }

pub returns-clause-gives : goal.returns-clause-gives
returns-clause-gives g c =
    ends g.T.Reads.meant c.args.path.now c.values.items c.args.values.now c.values.i _
    (drop_of_length-le c.args.values.now c.values-test.false) c.values.invariant.told
