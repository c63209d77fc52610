use Rattle.web_laws.proofs.ReadingLemmas.{stands}
use Rattle.web_laws.proofs.fronts.front_reads_the_same.Goals as goal

pub returns : goal.returns
returns c = record { stands = λ read e s. stands c.args.front.now c.args.more.now 16384 read e s }
