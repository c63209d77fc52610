use Rattle.std.proofs.lemmas.Result.{IfOk-equal}
use Rattle.std.specs.Fmt.{signed_decimal}
use Rattle.keeper_reports.specs.Columns.{left_in, right_in, shown}
use Rattle.keeper_reports.specs.Reports.{on_or_off}
use Rattle.keeper_reports.proofs.LineLemmas.{line_written}
use Rattle.keeper_reports.proofs.report.add_user.Goals as goal

pub returns : goal.returns
returns c =
    let row = c.args.row.now in
    let name = rw c.as_bytes.ensures.bytes at c.in_ok-add_left.ensures in
    let state = rw c.on_or_off.ensures at c.in_ok-add_next_left.ensures in
    let actions = rw (c.shown.ensures, c.as_bytes-2.ensures.bytes) at c.add_last.ensures in
    IfOk-equal c.add_last.result _ _ _ actions
    (line_written c.args.out.now.items c.add_left.new.out.items c.add_next_number.new.out.items c.add_next_left.new.out.items c.add_next_number-2.new.out.items
    (left_in 32 row.name) (right_in 8 (signed_decimal row.id)) (left_in 3 (on_or_off row)) (right_in 6 (signed_decimal row.count)) (shown row.actions)
    name c.in_ok-add_next_number.ensures state c.in_ok-add_next_number-2.ensures)
