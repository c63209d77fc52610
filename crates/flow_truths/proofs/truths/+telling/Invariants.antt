use Rattle.std.proofs.Common.{◌≡◌, ◌++◌, take}
use Rattle.std.specs.List.{flat_map}
use Rattle.flow_truths.specs.Truths.{truths_in}
use Rattle.flow_truths.proofs.truths.+telling.Given as goal

abbrev pub invariant-add_truths-loop-exec : goal.invariant-add_truths-loop-exec
invariant-add_truths-loop-exec l = l.held ≡ l.fn.held ++ flat_map (truths_in l.view l.cookie l.beside) (take l.exec-index l.execs)
