use Rattle.std.proofs.Common.{◌≡◌, rules, arith}
use Rattle.login_desk.specs.Intake.{with_byte}
use Rattle.login_desk.proofs.LineLemmas.{length-with_byte}
use Rattle.login_desk.proofs.TakingLemmas.{goes_on}
use Rattle.login_desk.proofs.intake.Intake.next_line.Goals as goal

pub loop-preserved : goal.loop-preserved
loop-preserved g c =
    let kept : c.keep.new.kept.items ≡ with_byte c.loop.kept.items c.in-Got.byte = search rules in
    let took = c.in-Got.ensures.byte in
    record {
      taking = rw kept (goes_on _ c.loop.self _ _ _ _ c.loop.kept.items c.in-Got.byte c.loop.invariant.taking c.in-Got.byte-test.1 took.0 took.1);
      kept = rw kept (length-with_byte c.loop.kept.items c.in-Got.byte c.loop.invariant.kept);
      count = omega (arith, took.1, c.loop.invariant.count);
      limit = c.in-Got.ensures.limit;
      faults = omega (arith, c.in-Got.ensures.faults, c.loop.invariant.faults);
      ends = search rules;
    }
