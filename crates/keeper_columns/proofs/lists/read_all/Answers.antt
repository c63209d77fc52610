use Rattle.std.proofs.Common.{sym, ◌∙◌, rules}
use Rattle.keeper_columns.specs.Lists.{read_all}
use Rattle.keeper_columns.proofs.ListLemmas.{read_more, read_none}
use Rattle.keeper_columns.proofs.lists.read_all.Goals as goal

pub loop-part-init : goal.loop-part-init
unfolding read_all
loop-part-init g c = search rules

pub returns-in-None : goal.returns-in-None
returns-in-None g c =
    sym (read_none g.T.ListItem.item c.args.parts.now c.loop-part.part-index _ c.loop-part.items.items c.loop-part-test.true
    c.loop-part.invariant (sym c.in_ok-item.ensures.ok ∙ c.in-None.is))

pub loop-part-preserved : goal.loop-part-preserved
loop-part-preserved g c =
    read_more g.T.ListItem.item c.args.parts.now c.loop-part.part-index _ c.loop-part.items.items c.in-Some.item c.loop-part-test.true
    c.loop-part.invariant (sym c.in_ok-item.ensures.ok ∙ c.in-Some.is) ∙ search rules
