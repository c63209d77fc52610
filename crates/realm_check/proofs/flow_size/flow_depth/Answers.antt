use Rattle.std.proofs.Common.{ap, arith}
use Rattle.realm_check.specs.Check.{flow_depth}
use Rattle.realm_check.proofs.SizeLemmas.{shallow_flow}
use Rattle.realm_check.proofs.flow_size.flow_depth.Goals as goal

pub returns : goal.returns
returns c =
    let shallow = shallow_flow c.args.flow.now c.execs.ensures.sound in
    let same = ap flow_depth c.execs.ensures.execs in
    record { value = omega (arith, shallow, same, c.depth_among.ensures 1 (omega arith)) }
