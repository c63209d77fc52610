use Rattle.hall_laws.proofs.PostReadiness.{post_done}
use Rattle.hall_laws.proofs.ready.post_completes.Goals as goal

pub returns : goal.returns
returns c = record { done = post_done c.args.setting.now c.args.post.now c.args.finding.now c.args.user }
