use Rattle.std.proofs.Common.{refl, arith}
use Rattle.login_desk.specs.Run.ReplayMeans.{Answered, CutOff, Starved}
use Rattle.login_desk.proofs.RunLemmas.{at_fault, at_limit}
use Rattle.login_desk.proofs.run.replay.Goals as goal

pub returns-in-Done-clause-means : goal.returns-in-Done-clause-means
returns-in-Done-clause-means g c = Answered refl c.in-Done.ensures.play

pub returns-in-ReadFailed-clause-means : goal.returns-in-ReadFailed-clause-means
returns-in-ReadFailed-clause-means g c =
    let played = c.in-ReadFailed.ensures in
    at_fault _ _ _ _ _ (λ e. let rose = c.close.ensures.cause e in omega (arith, played.puts, rose)) played.play (played.read_cause refl) c.close.ensures.unread c.close.ensures.line

pub returns-in-PutFailed-clause-means : goal.returns-in-PutFailed-clause-means
returns-in-PutFailed-clause-means g c = CutOff refl (c.in-PutFailed.ensures.put_cause refl) c.in-PutFailed.ensures.play

pub returns-in-TooLong-clause-means : goal.returns-in-TooLong-clause-means
returns-in-TooLong-clause-means g c =
    let played = c.in-TooLong.ensures in
    at_limit _ _ _ _ _ (λ e. let rose = c.close-in-TooLong.ensures.cause e in omega (arith, played.puts, rose)) played.play c.close-in-TooLong.ensures.line

pub returns-in-Memory-clause-means : goal.returns-in-Memory-clause-means
returns-in-Memory-clause-means g c = Starved refl c.in-Memory.ensures.play
