use Rattle.std.proofs.Common.{◌≡◌, ◌≤◌, ◌+◌, ◌^◌, length}
use Rattle.login_desk.specs.Intake.{Taking}
use Rattle.script_lines.specs.Lines.{line_limit}
use Rattle.login_desk.proofs.intake.Intake.next_line.Given as goal

abbrev pub invariant-loop : goal.invariant-loop
invariant-loop g l = record {
  taking : Taking l.fn.self (g.S.Source.left l.fn.source) l.kept.items l.self (g.S.Source.left l.source);
  kept : length l.kept.items ≤ line_limit + 1;
  count : l.fn.self.taken + l.counter ≤ l.self.taken;
  limit : l.self.taken ≤ 2 ^ 32;
  faults : g.S.Source.faults l.fn.source ≤ g.S.Source.faults l.source;
  ends : g.S.Source.ends l.source ≡ g.S.Source.ends l.fn.source;
}
