use Rattle.hall_laws.proofs.Evidencing.{evidence_of_posts}
use Rattle.hall_laws.proofs.evidence.only_posts_add_evidence.Goals as goal

pub returns : goal.returns
returns c = record { none = evidence_of_posts c.args.setting.now c.args.ask.now c.args.finding.now c.requires.other }
