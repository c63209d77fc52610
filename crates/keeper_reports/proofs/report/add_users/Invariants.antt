use Rattle.std.proofs.Common.{◌≡◌, ◌++◌, Bor, take}
use Rattle.std.specs.List.{flat_map}
use Rattle.keeper_rows.specs.declared.rows.AccountRow.{AccountRow}
use Rattle.keeper_reports.specs.Reports.{user_line}
use Rattle.keeper_reports.proofs.report.add_users.Given as goal

abbrev pub invariant-loop-row : goal.invariant-loop-row
invariant-loop-row l =
    l.out.items ≡ l.fn.out.items ++ flat_map (λ (row : Bor AccountRow). user_line row.now) (take l.row-index l.rows)
