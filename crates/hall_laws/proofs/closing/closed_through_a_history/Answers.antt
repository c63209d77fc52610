use Rattle.hall_laws.proofs.ClosedAccounts.{closed_through}
use Rattle.hall_laws.proofs.closing.closed_through_a_history.Goals as goal

pub returns : goal.returns
returns c =
    record { closed = closed_through c.args.base.now c.args.front.now c.args.more.now c.args.user c.requires.legal c.requires.unopened c.requires.closed }
