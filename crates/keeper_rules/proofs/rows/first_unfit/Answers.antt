use Rattle.std.proofs.Common.{sym, ◌∙◌}
use Rattle.keeper_rules.proofs.PlaceLemmas.{fails_first, fails_nowhere}
use Rattle.keeper_rules.proofs.rows.first_unfit.Goals as goal

pub returns-then-not-branch-clause-ok : goal.returns-then-not-branch-clause-ok
returns-then-not-branch-clause-ok g c =
    fails_first g.R.Fits.fits c.args.rows.now c.rows.at c.rows.invariant c.rows-test.true c.index-rows-at.result c.index-rows-at.is
    (sym c.in_ok-fits.ensures.ok ∙ c.if-not-branch.true)

pub returns-clause-ok : goal.returns-clause-ok
returns-clause-ok g c = fails_nowhere g.R.Fits.fits c.args.rows.now c.rows.at c.rows.invariant c.rows-test.false
