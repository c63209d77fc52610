use Rattle.keeper_rows.specs.declared.rows.SessionRow.{SessionRow}
use Rattle.keeper_reports.specs.Reports.{sessions, name_of, session_line}
use Rattle.keeper_reports.proofs.LineLemmas.{rows_written}
use Rattle.keeper_reports.proofs.report.sessions_text.Goals as goal

pub returns : goal.returns
returns c =
    let seen = rw c.as_slice.ensures.items at c.in_ok-rows.ensures in
    rows_written (λ (row : SessionRow). session_line (name_of c.args.tables.now.accounts row.user) row) c.new-out.result.items c.add_sessions.new.out.items c.as_slice-2.result.now c.in_ok-rows.rows.items (sessions c.args.tables.now) c.new-out.ensures.items c.as_slice-2.ensures.value seen c.in_ok-add_sessions.ensures
