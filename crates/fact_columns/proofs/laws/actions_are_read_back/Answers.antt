use Rattle.keeper_columns.specs.Words.{action_in, is_action_before}
use Rattle.fact_columns.specs.Lists.{in_order}
use Rattle.fact_columns.specs.Words.{action_word}
use Rattle.fact_columns.proofs.ItemLemmas.{action_read, actions_tie}
use Rattle.fact_columns.proofs.ReadBack.{all_read, read_back, in_order_up}
use Rattle.fact_columns.proofs.laws.actions_are_read_back.Goals as goal

pub returns : goal.returns
returns c =
    let required = c.args.actions.now in
    let ordered = in_order is_action_before required in
    record { actions = read_back action_word action_in is_action_before ordered (all_read action_word action_in action_read ordered) (in_order_up is_action_before actions_tie required) }
