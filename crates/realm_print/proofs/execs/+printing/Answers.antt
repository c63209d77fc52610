use Rattle.std.proofs.Common.{rules, sym, take}
use Rattle.std.proofs.lemmas.List.{take_more, take_all}
use Rattle.std.proofs.lemmas.Result.{IfOk-weaker}
use Rattle.toml.specs.View.{view, table_view}
use Rattle.toml.specs.declared.value.Value.{Table}
use Rattle.toml.proofs.Views.{view-Array, view-Table}
use Rattle.flow_tree.specs.declared.exec.Exec.{the_lemmas as exec_lemmas}
use Rattle.flow_tree.specs.declared.exec.Body.{the_lemmas as body_lemmas}
use Rattle.realm_file.specs.Execs.{exec_in}
use Rattle.realm_print.proofs.FlowLemmas.{cond_ranged, steps_ranged, exec_ranged, flow_plain, item_back, array_back, step_plain, none_plain}
use Rattle.realm_print.proofs.ListLemmas.{none_read, push_back}
use Rattle.realm_print.proofs.execs.+printing.Goals as goal

pub print_exec-cond_table-requires-clause-range : goal.print_exec-cond_table-requires-clause-range
print_exec-cond_table-requires-clause-range t c = cond_ranged c.args.exec.now c.in-Cond.cond c.in-Cond.is c.requires

pub print_exec-print_execs-requires : goal.print_exec-print_execs-requires
print_exec-print_execs-requires t c =
    (search (rules, exec_lemmas, body_lemmas), rw c.as_slice.ensures (steps_ranged c.args.exec.now c.in-Sub.execs c.in-Sub.is c.requires))

pub print_exec-returns-in_ok-steps-in-Sub-clause-plain : goal.print_exec-returns-in_ok-steps-in-Sub-clause-plain
print_exec-returns-in_ok-steps-in-Sub-clause-plain t c =
    IfOk-weaker c.flow_table.result _ _
    (λ made h. flow_plain c.args.exec.now c.in-Sub.execs (view c.in_ok-steps-in-Sub.steps) (table_view made) c.in-Sub.is
    (rw c.as_slice.ensures at c.in_ok-steps-in-Sub.ensures.plain) h) c.flow_table.ensures.plain

pub print_execs-loop-exec-init : goal.print_execs-loop-exec-init
print_execs-loop-exec-init t c = rw c.new-values.ensures.items (record { read = none_read exec_in; plain = none_plain c.args.execs.now })

pub print_execs-print_exec-requires : goal.print_execs-print_exec-requires
print_execs-print_exec-requires t c =
    (search (rules, exec_lemmas, body_lemmas), exec_ranged c.args.execs.now c.loop-exec.exec-index c.exec-item.result c.loop-exec-test.true (sym c.exec-item.is) c.requires)

pub print_execs-loop-exec-preserved : goal.print_execs-loop-exec-preserved
print_execs-loop-exec-preserved t c =
    let es = c.args.execs.now in
    let i = c.loop-exec.exec-index in
    let e = c.exec-item.result in
    let was = c.loop-exec.invariant in
    let value = Table c.in_ok-print_exec.field-0 in
    rw (c.in_ok-push.ensures.items, take_more es i e c.loop-exec-test.true, sym c.exec-item.is) (record {
      read = push_back exec_in c.loop-exec.values.items value (take i es) e was.read
          (rw view-Table (item_back e (table_view c.in_ok-print_exec.field-0) c.in_ok-print_exec.ensures.read));
      plain = step_plain es i e c.loop-exec.values.items value (table_view c.in_ok-print_exec.field-0) c.loop-exec-test.true (sym c.exec-item.is)
          (view-Table c.in_ok-print_exec.field-0) c.in_ok-print_exec.ensures.plain was.plain;
    })

pub print_execs-returns-clause-read : goal.print_execs-returns-clause-read
print_execs-returns-clause-read t c =
    let all = take_all c.loop-exec.exec-index c.args.execs.now c.loop-exec-test.false in
    rw view-Array (array_back _ c.args.execs.now (rw all at c.loop-exec.invariant.read))
