use Rattle.std.proofs.Common.{sym, take}
use Rattle.std.proofs.lemmas.List.{take_more, take_all}
use Rattle.toml.proofs.Views.{view-Array}
use Rattle.realm_print.proofs.ListLemmas.{none_read, push_back, list_back, few_back, no_plain, plain_last, plain_array}
use Rattle.realm_print.proofs.lists.print_list.Goals as goal

pub items-init : goal.items-init
items-init g c = rw c.new-values.ensures.items (record { read = none_read g.T.Reads.meant; plain = no_plain g.T.Prints.deep })

pub items-preserved : goal.items-preserved
items-preserved g c =
    let item = c.item-item.result in
    let was = c.items.invariant in
    rw (c.in_ok-push.ensures.items, take_more c.args.items.now c.items.item-index item c.items-test.true, sym c.item-item.is) (record {
      read = push_back g.T.Reads.meant c.items.values.items c.in_ok-print.field-0 (take c.items.item-index c.args.items.now) item was.read c.in_ok-print.ensures.read;
      plain = plain_last c.items.values.items c.in_ok-print.field-0 g.T.Prints.deep was.plain c.in_ok-print.ensures.plain;
    })

pub returns-clause-read : goal.returns-clause-read
returns-clause-read g c =
    let all = take_all c.items.item-index c.args.items.now c.items-test.false in
    rw view-Array (list_back g.T.Reads.meant _ c.args.items.now (rw all at c.items.invariant.read))

pub returns-clause-few : goal.returns-clause-few
returns-clause-few g c =
    let all = take_all c.items.item-index c.args.items.now c.items-test.false in
    rw view-Array (few_back g.T.Reads.meant _ c.args.items.now (rw all at c.items.invariant.read))

pub returns-clause-plain : goal.returns-clause-plain
returns-clause-plain g c = rw view-Array (plain_array g.T.Prints.deep _ c.items.invariant.plain)
