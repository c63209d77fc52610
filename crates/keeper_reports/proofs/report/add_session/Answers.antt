use Rattle.std.proofs.lemmas.Result.{IfOk-equal}
use Rattle.std.specs.Fmt.{signed_decimal}
use Rattle.keeper_reports.specs.Columns.{left_in, right_in, shown}
use Rattle.keeper_reports.proofs.LineLemmas.{line_written}
use Rattle.keeper_reports.proofs.report.add_session.Goals as goal

pub returns : goal.returns
returns c =
    let row = c.args.row.now in
    let id = rw c.as_bytes.ensures.bytes at c.in_ok-add.ensures in
    let name = rw c.shown.ensures at c.in_ok-add_next_left.ensures in
    let levels = rw (c.shown-2.ensures, c.as_bytes-2.ensures.bytes) at c.add_last.ensures in
    IfOk-equal c.add_last.result _ _ _ levels
    (line_written c.args.out.now.items c.add.new.out.items c.add_next_left.new.out.items c.add_next_number.new.out.items c.add_next_number-2.new.out.items
    row.id (left_in 32 (shown c.args.name.now)) (right_in 16 (signed_decimal row.opened)) (right_in 16 (signed_decimal row.seen)) (shown row.levels)
    id name c.in_ok-add_next_number.ensures c.in_ok-add_next_number-2.ensures)
