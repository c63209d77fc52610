use Rattle.web_requests.proofs.HeadLemmas.{whole}
use Rattle.web_requests.proofs.head.read_head.Goals as goal

pub returns : goal.returns
returns c = record { head = whole c.args.bytes.now c.head_within.result c.requires.lines c.head_within.ensures.head }
