use Rattle.std.proofs.Common.{codes, sym, arith, rules}
use Rattle.std.proofs.lemmas.Result.{err_from_is_err_and}
use Rattle.std.proofs.Math.ListN.{drop_of_length-le}
use Rattle.toml.specs.View.{view, table_view}
use Rattle.realm_file.proofs.ExecLemmas.{exec_table, execs_array, steps_member, goes_on, stops_at, ends, array_depth, table_depth, member_depth, item_depth}
use Rattle.realm_file.proofs.execs.+execs.Goals as goal

pub list_execs-returns-in_err-exec : goal.list_execs-returns-in_err-exec
list_execs-returns-in_err-exec t c =
    let p = err_from_is_err_and c.from_residual-in_err-exec.result c.from_residual-in_err-exec.ensures.1 in
    rw (p.1, p.2) (stops_at c.in_err-exec.field-0.0 c.args.path.now c.values.execs c.args.values.now c.values.i c.index-values-i.result _
    c.values-test.true (sym c.index-values-i.is) (rw (c.as_slice.ensures.items, c.in_ok-path.ensures) at c.in_err-exec.ensures) c.values.invariant)

pub list_execs-values-preserved : goal.list_execs-values-preserved
list_execs-values-preserved t c =
    rw c.in_ok-push.ensures.ok (goes_on c.args.path.now c.values.execs c.args.values.now c.values.i c.index-values-i.result c.in_ok-exec.exec _
    c.values-test.true (sym c.index-values-i.is) (rw (c.as_slice.ensures.items, c.in_ok-path.ensures) at c.in_ok-exec.ensures) c.values.invariant)

pub list_execs-returns : goal.list_execs-returns
list_execs-returns t c =
    ends c.args.path.now c.values.execs c.args.values.now c.values.i _ (drop_of_length-le c.args.values.now c.values-test.false) c.values.invariant

pub list_execs-read_exec-requires : goal.list_execs-read_exec-requires
list_execs-read_exec-requires t c =
    (let le = item_depth c.args.values.now c.values.i c.index-values-i.result c.values-test.true (sym c.index-values-i.is) in omega arith, tt)

pub read_exec-returns-in_err-table : goal.read_exec-returns-in_err-table
read_exec-returns-in_err-table t c = rw exec_table (search rules)

pub read_exec-exec_fields-requires : goal.read_exec-exec_fields-requires
read_exec-exec_fields-requires t c = (let e = table_depth _ _ _ c.in_ok-table.ensures in omega arith, tt)

pub read_exec-returns : goal.read_exec-returns
read_exec-returns t c = rw (exec_table, c.in_ok-table.ensures) c.exec_fields.ensures

pub read_execs-returns-in_err-array : goal.read_execs-returns-in_err-array
read_execs-returns-in_err-array t c = rw execs_array (search rules)

pub read_execs-list_execs-requires : goal.read_execs-list_execs-requires
read_execs-list_execs-requires t c = (let e = array_depth _ _ _ c.in_ok-array.ensures in omega arith, tt)

pub read_execs-returns : goal.read_execs-returns
read_execs-returns t c = rw (execs_array, c.in_ok-array.ensures) c.list_execs.ensures

pub read_steps-read_execs-requires : goal.read_steps-read_execs-requires
read_steps-read_execs-requires t c = (let le = member_depth (codes "steps") (view c.in-Some.value.now) (table_view c.args.table.now) c.in-Some.ensures in omega arith, tt)

pub read_steps-returns-in-Some : goal.read_steps-returns-in-Some
read_steps-returns-in-Some t c = rw (steps_member, c.in-Some.ensures) (search rules)

pub read_steps-returns : goal.read_steps-returns
read_steps-returns t c = rw (steps_member, c.in-None.ensures) (search rules)
