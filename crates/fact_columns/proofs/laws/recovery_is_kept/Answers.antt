use Rattle.std.proofs.Common.{◌≤◌, refl, arith, decimal}
use Rattle.decimal_text.proofs.NumberLemmas.{number-decimal}
use Rattle.keeper_columns.specs.Bodies.{digest_count}
use Rattle.fact_columns.specs.Bodies.{recovery_body}
use Rattle.fact_columns.proofs.BodyLemmas.{counted, are_kept}
use Rattle.fact_columns.proofs.laws.recovery_is_kept.Goals as goal

pub returns-clause-body : goal.returns-clause-body
returns-clause-body c = are_kept c.args.digests.now c.requires.range

pub returns-clause-count : goal.returns-clause-count
returns-clause-count c = counted c.args.digests.now c.requires.range

pub returns-clause-spent : goal.returns-clause-spent
returns-clause-spent c =
    let count = counted c.args.digests.now c.requires.range in
    let le : c.args.spent ≤ digest_count (recovery_body c.args.digests.now) = omega arith in
    number-decimal (digest_count (recovery_body c.args.digests.now)) c.args.spent (decimal c.args.spent) (omega arith) le refl
