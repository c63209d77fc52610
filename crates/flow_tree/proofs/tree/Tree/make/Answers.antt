use Rattle.std.proofs.Common.{◌∙◌, sym, ap}
use Rattle.std.specs.Prelude.{is_some}
use Rattle.std.proofs.lemmas.Bool.{false≢true}
use Rattle.flow_tree.proofs.Breaking.{told_at}
use Rattle.flow_tree.proofs.Ruling.{whole, fault_named}
use Rattle.flow_tree.proofs.tree.Tree.make.Goals as goal

pub unreachable-requires : goal.unreachable-requires
unreachable-requires c =
    let found = told_at _ _ _ c.in-Some.rule c.in-Some.is (rw c.as_slice.ensures at c.first_rule.ensures) in
    let gone = sym (whole c.in-Some.rule c.args.execs) ∙ sym c.take_first.ensures ∙ c.in-None.is in
    false≢true (ap is_some (sym gone) ∙ found.is_broken)

pub returns-clause-err : goal.returns-clause-err
returns-clause-err c =
    let found = told_at _ _ _ c.in-Some.rule c.in-Some.is (rw c.as_slice.ensures at c.first_rule.ensures) in
    found.first ∙ fault_named c.in-Some.rule c.args.execs c.in-Some-take_first.id (sym c.in-Some-take_first.is ∙ c.take_first.ensures ∙ whole c.in-Some.rule c.args.execs)
