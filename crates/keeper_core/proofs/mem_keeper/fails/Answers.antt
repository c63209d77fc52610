use Rattle.keeper_core.proofs.CallLemmas.{goes_on}
use Rattle.keeper_core.proofs.mem_keeper.fails.Goals as goal

pub returns-clause-told : goal.returns-clause-told
returns-clause-told c = rw c.fails.ensures.state (goes_on c.args.calls.now c.fails.result c.fails.ensures.fails)
