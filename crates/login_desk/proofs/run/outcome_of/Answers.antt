use Rattle.login_desk.proofs.RunLemmas.{line_means}
use Rattle.login_desk.proofs.run.outcome_of.Goals as goal

pub returns-in-Some-clause-means : goal.returns-in-Some-clause-means
returns-in-Some-clause-means g c = rw c.in-Some.is c.obey.ensures.means

pub returns-in-None-clause-means : goal.returns-in-None-clause-means
returns-in-None-clause-means g c = rw c.in-None.is (c.close.ensures.unread, line_means _ _ _ _ _ c.close.ensures.line c.close.ensures.cause)
