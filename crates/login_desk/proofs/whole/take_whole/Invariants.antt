use Rattle.std.proofs.Common.{◌≡◌, ◌<◌, ◌≤◌, length}
use Rattle.std.specs.Prelude.{vec_len}
use Rattle.login_base.specs.Outside.{before_known}
use Rattle.login_desk.specs.Whole.{whole_limit}
use Rattle.login_desk.proofs.whole.take_whole.Given as goal

abbrev pub invariant-loop : goal.invariant-loop
invariant-loop g l = record {
  kept : g.S.Source.left l.fn.source ≡ before_known l.kept.items (g.S.Source.left l.source);
  count : l.counter ≤ length l.kept.items;
  limit : length l.kept.items ≤ whole_limit;
  room : 0 < vec_len l.buffer;
  faults : g.S.Source.faults l.fn.source ≤ g.S.Source.faults l.source;
  ends : g.S.Source.ends l.source ≡ g.S.Source.ends l.fn.source;
}
