use Rattle.std.proofs.Common.{◌≡◌, ◌-◌, ◌≤◌}
use Rattle.std.specs.List.{range_with_len}
use Rattle.one_time.specs.Hotp.{is_code_of}
use Rattle.one_time.specs.Verdicts.{verdict_over}
use Rattle.one_time.proofs.totp.verdict_over.Given as goal

abbrev pub invariant-loop-step : goal.invariant-loop-step
invariant-loop-step l = record {
  low : l.first ≤ l.step;
  high : l.step ≤ l.end;
  so_far : l.verdict ≡ verdict_over (is_code_of l.key l.digits l.code) l.spent (range_with_len l.step (l.end - l.step));
}

abbrev pub decreases-loop-step : goal.decreases-loop-step
decreases-loop-step l = l.step
