use Rattle.std.proofs.Common.{ap, arith}
use Rattle.realm_check.specs.Check.{execution_count}
use Rattle.realm_check.proofs.SizeLemmas.{few_executions}
use Rattle.realm_check.proofs.flow_size.execution_count.Goals as goal

pub returns : goal.returns
returns c =
    let few = few_executions c.args.flow.now c.execs.ensures.sound in
    let same = ap execution_count c.execs.ensures.execs in
    record { value = omega (arith, few, same, c.count_among.ensures 1) }
