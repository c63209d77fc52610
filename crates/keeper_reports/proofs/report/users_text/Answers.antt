use Rattle.keeper_reports.specs.Reports.{users, user_line}
use Rattle.keeper_reports.proofs.LineLemmas.{rows_written}
use Rattle.keeper_reports.proofs.report.users_text.Goals as goal

pub returns : goal.returns
returns c =
    let seen = rw c.as_slice.ensures.items at c.in_ok-rows.ensures in
    rows_written user_line c.new-out.result.items c.add_users.new.out.items c.as_slice-2.result.now c.in_ok-rows.rows.items (users c.args.tables.now) c.new-out.ensures.items c.as_slice-2.ensures.value seen c.in_ok-add_users.ensures
