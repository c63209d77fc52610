use Rattle.std.proofs.Common.{not, ap, ◌∙◌}
use Rattle.std.specs.List.{list_any}
use Rattle.flow_tree.specs.Places.{Place, places}
use Rattle.flow_tree.specs.Ranges.{is_level_in_range}
use Rattle.flow_tree.proofs.Earlier.{all_pass}
use Rattle.flow_tree.proofs.tree.Tree.has_levels_in_range.Goals as goal

pub returns : goal.returns
returns c =
    let same = ap (λ es. list_any (λ (p : Place). not (is_level_in_range p.shape)) (places es)) (c.as_slice.ensures ∙ c.self.view_is) in
    record { value = ap not (c.is_among.ensures.value 1 ∙ same) ∙ all_pass (λ (p : Place). is_level_in_range p.shape) (places c.args.self.now) }
