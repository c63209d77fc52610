use Rattle.std.proofs.Common.{not, ap, ◌∙◌}
use Rattle.std.specs.List.{list_any}
use Rattle.flow_tree.specs.Names.{has_own_names}
use Rattle.flow_tree.specs.Places.{Place, places}
use Rattle.flow_tree.proofs.Earlier.{all_pass}
use Rattle.flow_tree.proofs.tree.Tree.has_names.Goals as goal

pub returns-clause-value : goal.returns-clause-value
returns-clause-value c =
    let same = ap (λ es. list_any (λ (p : Place). not (has_own_names p)) (places es)) (c.as_slice.ensures ∙ c.self.view_is) in
    ap not (c.is_among.ensures.value 1 ∙ same) ∙ all_pass has_own_names (places c.args.self.now)
