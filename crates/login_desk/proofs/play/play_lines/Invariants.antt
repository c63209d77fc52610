use Rattle.std.proofs.Common.{◌≤◌, ◌^◌}
use Rattle.login_desk.specs.Going.{Going}
use Rattle.login_desk.proofs.play.play_lines.Given as goal

abbrev pub invariant-loop : goal.invariant-loop
invariant-loop g l = record {
  going : Going l.fn.player.base l.fn.outside l.outside l.intake l.player;
  count : l.counter ≤ l.intake.taken;
  limit : l.intake.taken ≤ 2 ^ 32;
}
