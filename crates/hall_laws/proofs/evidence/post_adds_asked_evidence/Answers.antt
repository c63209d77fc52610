use Rattle.hall_laws.proofs.Evidencing.{evidence_asked}
use Rattle.hall_laws.proofs.evidence.post_adds_asked_evidence.Goals as goal

pub returns : goal.returns
returns c = record { asked = evidence_asked c.args.setting.now c.args.post.now c.args.finding.now }
