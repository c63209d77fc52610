use Rattle.hall_laws.proofs.Repeating.{refused_again, nothing_again}
use Rattle.hall_laws.proofs.repeats.accepted_post_again.Goals as goal

pub returns : goal.returns
returns c =
    let setting = c.args.setting.now in
    let post = c.args.post.now in
    let finding = c.args.finding.now in
    let later = c.args.later.now in
    let later_finding = c.args.later_finding.now in
    record {
      refused = refused_again setting post finding c.requires.accepted later later_finding c.requires.codes c.requires.next;
      added = nothing_again setting post finding c.requires.accepted later later_finding c.requires.codes c.requires.next;
    }
