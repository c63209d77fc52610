use Rattle.hall_laws.proofs.Repeating.{done_again}
use Rattle.hall_laws.proofs.repeats.completed_post_again.Goals as goal

pub returns : goal.returns
returns c =
    record {
      again =
          done_again c.args.setting.now c.args.post.now c.args.finding.now c.args.user c.args.later.now c.args.later_finding.now
          c.requires.done c.requires.next;
    }
