use Rattle.std.proofs.Common.{◌∙◌, ◌+◌, drop, arith}
use Rattle.login_hall.proofs.StartLemmas.{users_step, dropped, users_end}
use Rattle.login_hall.proofs.start.add_users.Goals as goal

pub loop-given-preserved : goal.loop-given-preserved
loop-given-preserved g c = record {
  added =
      rw (c.in_ok-serial.ensures.added, c.in_ok-serial.ensures.serial)
      (users_step c.args.facts.now c.loop-given.added c.loop-given.serial c.given-item.result (drop c.loop-given.given-index c.args.users.now) (drop (c.loop-given.given-index + 1) c.args.users.now)
      (dropped c.args.users.now c.loop-given.given-index c.given-item.result c.loop-given-test.true c.given-item.is)
      ∙ c.loop-given.invariant.added);
  few = omega (arith, c.in_ok-serial.ensures.near, c.loop-given.invariant.few);
}

pub returns : goal.returns
returns g c = users_end c.args.facts.now c.loop-given.added c.loop-given.serial c.args.users.now c.loop-given.given-index (omega (arith, c.loop-given-test.false)) ∙ c.loop-given.invariant.added
