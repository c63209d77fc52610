use Rattle.hall_laws.proofs.ClosedAccounts.{locked_kept}
use Rattle.hall_laws.proofs.closing.locked_stays_locked.Goals as goal

pub returns : goal.returns
returns c =
    record { same = locked_kept c.args.setting.now c.args.ask.now c.args.finding.now c.args.user c.requires.locked c.requires.unopened }
