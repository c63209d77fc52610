use Rattle.account_states.proofs.StateLemmas.{carried_state}
use Rattle.account_states.proofs.state.state_of.Goals as goal

pub returns : goal.returns
returns g c =
    let carried = rw c.none.ensures at c.fold_by-carried.ensures.value in
    record { value = carried_state c.args.user c.fold_by-carried.result c.args.facts.now carried }
