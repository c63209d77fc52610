use Rattle.hall_laws.proofs.Checking.{check_counts}
use Rattle.hall_laws.proofs.checks.check_counts_unless_refused.Goals as goal

pub returns : goal.returns
returns c = record { counts = check_counts c.args.setting.now c.args.post.now c.args.had }
