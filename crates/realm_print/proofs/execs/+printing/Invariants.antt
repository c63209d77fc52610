use Rattle.std.proofs.Common.{take}
use Rattle.toml.specs.View.{items_view}
use Rattle.realm_file.specs.Execs.{exec_in}
use Rattle.realm_print.proofs.FlowLemmas.{AreStepsPlain}
use Rattle.realm_print.proofs.ListLemmas.{AreReadAs}
use Rattle.realm_print.proofs.execs.+printing.Given as goal

abbrev pub invariant-print_execs-loop-exec : goal.invariant-print_execs-loop-exec
invariant-print_execs-loop-exec l =
    record {
      read : AreReadAs exec_in (items_view l.values.items) (take l.exec-index l.execs);
      plain : AreStepsPlain l.execs (items_view l.values.items);
    }
