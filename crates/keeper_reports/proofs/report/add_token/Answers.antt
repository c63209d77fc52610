use Rattle.std.proofs.lemmas.Result.{IfOk-equal}
use Rattle.std.specs.Fmt.{signed_decimal}
use Rattle.keeper_reports.specs.Columns.{left_in, right_in, shown}
use Rattle.keeper_reports.specs.Reports.{spent_or_not}
use Rattle.keeper_reports.proofs.LineLemmas.{line_written}
use Rattle.keeper_reports.proofs.report.add_token.Goals as goal

pub returns : goal.returns
returns c =
    let row = c.args.row.now in
    let key = rw c.as_bytes.ensures.bytes at c.in_ok-add.ensures in
    let name = rw c.shown.ensures at c.in_ok-add_next_left.ensures in
    let kind = rw c.as_bytes-2.ensures.bytes at c.in_ok-add_next_left-2.ensures in
    let spent = rw c.spent_or_not.ensures at c.add_last.ensures in
    IfOk-equal c.add_last.result _ _ _ spent
    (line_written c.args.out.now.items c.add.new.out.items c.add_next_left.new.out.items c.add_next_left-2.new.out.items c.add_next_number.new.out.items
    row.key (left_in 32 (shown c.args.name.now)) (left_in 15 row.kind) (right_in 16 (signed_decimal row.expiry)) (spent_or_not row)
    key name kind c.in_ok-add_next_number.ensures)
