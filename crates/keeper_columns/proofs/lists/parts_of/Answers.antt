use Rattle.std.proofs.Common.{ℕ, ◌∙◌, rules}
use Rattle.std.specs.Prelude.{◌==◌}
use Rattle.std.proofs.lemmas.Iterator.Consumers.{map_from_collect}
use Rattle.std.proofs.lemmas.Iterator.Splits.{YieldsList-from_slice_split}
use Rattle.keeper_columns.proofs.ListLemmas.{parts_of_some, when_ok}
use Rattle.keeper_columns.proofs.lists.parts_of.Goals as goal

pub returns : goal.returns
returns c =
    let found = map_from_collect c.collect.result c.collect.ensures.ran (YieldsList-from_slice_split _ (λ (b : ℕ). b == 44) c.args.text.now c.split.ensures.rest c.split.ensures.done c.split.ensures.closure (λ x b q h. search rules)) in
    when_ok _ _ c.in_ok-collect.field-0 c.in_ok-collect.was found ∙ parts_of_some c.args.text.now (search rules)
