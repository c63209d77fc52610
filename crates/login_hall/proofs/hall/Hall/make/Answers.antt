use Rattle.login_hall.proofs.Pushes.{sound-start}
use Rattle.login_hall.proofs.hall.Hall.make.Goals as goal

pub invariant_of-result-2 : goal.invariant_of-result-2
invariant_of-result-2 c = rw (c.new.ensures.items, c.add.ensures.list, c.in_ok-reserve.ensures.list, c.make-facts.ensures.list, c.in_ok-reserve.ensures.ok) sound-start
