use Rattle.std.proofs.Common.{◌∙◌, sym}
use Rattle.realm_data.proofs.Apart.{begun, taken, added, over}
use Rattle.realm_data.proofs.realm_rules.are_apart.Goals as goal

pub loop-item-init : goal.loop-item-init
loop-item-init g c = begun c.new-names.result.keys c.new-names.ensures.empty g.T.Named.name c.args.items.now

pub returns-then-not-branch : goal.returns-then-not-branch
returns-then-not-branch g c =
    let had = sym c.in_ok-insert.ensures.added ∙ c.if-not-branch.true in
    sym (c.loop-item.invariant
    ∙ taken c.loop-item.names.keys c.as_bytes.result had g.T.Named.name c.args.items.now c.loop-item.item-index
    c.item-item.result c.loop-item-test.true c.item-item.is (c.as_bytes.ensures.bytes ∙ c.name.ensures))

pub loop-item-preserved : goal.loop-item-preserved
loop-item-preserved g c =
    let new = sym c.in_ok-insert.ensures.added ∙ c.if-not-branch.false in
    c.loop-item.invariant
    ∙ added c.loop-item.names c.insert.new.self c.as_bytes.result c.in_ok-insert.ensures.updates new g.T.Named.name
    c.args.items.now c.loop-item.item-index c.item-item.result c.loop-item-test.true c.item-item.is
    (c.as_bytes.ensures.bytes ∙ c.name.ensures)

pub returns : goal.returns
returns g c =
    sym (c.loop-item.invariant
    ∙ over c.loop-item.names.keys g.T.Named.name c.args.items.now c.loop-item.item-index c.loop-item-test.false)
