use Rattle.hall_laws.proofs.ClosedAccounts.{closed_kept}
use Rattle.hall_laws.proofs.closing.closed_stays_closed.Goals as goal

pub returns : goal.returns
returns c =
    record { closed = closed_kept c.args.setting.now c.args.ask.now c.args.finding.now c.args.user c.requires.unopened c.requires.closed }
