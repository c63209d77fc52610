use Rattle.web_requests.specs.Front.{head_place}
use Rattle.web_laws.proofs.ReadingLemmas.{one_at}
use Rattle.web_laws.proofs.fronts.bytes_have_one_reading.Goals as goal

pub returns : goal.returns
returns c = record { one = λ first second p q. one_at c.args.bytes.now (head_place 16384 c.args.bytes.now) first second p q }
