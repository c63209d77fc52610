use Rattle.login_desk.proofs.WholeLemmas.{too_many}
use Rattle.login_desk.proofs.whole.take_whole.Goals as goal

pub returns-in-TooLong-clause-bytes : goal.returns-in-TooLong-clause-bytes
returns-in-TooLong-clause-bytes g c = too_many _ _ _ c.loop.kept.items c.take_part.new.kept.items c.loop.invariant.kept c.in-TooLong.ensures.part
