use Rattle.std.proofs.Common.{arith, ◌∙◌, sym, subst, true≢false}
use Rattle.std.specs.Ordering.{int_cmp}
use Rattle.sql_base.specs.Ready.{AreApart}
use Rattle.sql_loads.proofs.Loads.{rowids_hold, same_numbers}
use Rattle.sql_loads.proofs.reading.check_rowids.Goals as goal

pub returns-in_err-rowids-clause-cause : goal.returns-in_err-rowids-clause-cause
returns-in_err-rowids-clause-cause c failed wide have =
    let holds = rowids_hold c.args.at c.args.rows.now wide have in
    grind (arith, holds, failed, c.in_err-rowids.ensures.cause, c.from_residual.ensures)

pub returns-else-differ-clause-cause : goal.returns-else-differ-clause-cause
returns-else-differ-clause-cause c failed wide have =
    let same = same_numbers have.rowids c.in_ok-rowids.rowids (have.numbers ∙ sym c.in_ok-rowids.ensures.told) in
    true≢false (sym (c.if-differ.ensures.apart.1 (subst (AreApart int_cmp (λ n. n)) same have.apart)))
