use Rattle.std.proofs.Common.{◌≡◌, take}
use Rattle.flow_tree.specs.Flow.{judgements}
use Rattle.flow_tree.specs.Tally.{tally_of}
use Rattle.flow_tree.proofs.judge.+judging.Given as goal

abbrev pub invariant-tally-loop-exec : goal.invariant-tally-loop-exec
invariant-tally-loop-exec l = l.all ≡ tally_of (judgements l.held (take l.exec-index l.execs))
