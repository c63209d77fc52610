use Rattle.std.proofs.Common.{sym}
use Rattle.login_progress.specs.Progress.{progress_in}
use Rattle.login_progress.proofs.progress.progress_in.Goals as goal

pub returns : goal.returns
unfolding progress_in
returns g c = rw (sym c.in_ok-login.ensures, sym c.in_ok-truths.ensures.ok) c.progress_by.ensures
