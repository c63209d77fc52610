use Rattle.std.proofs.Common.{◌≡◌, ◌++◌, Bor, take}
use Rattle.std.specs.List.{flat_map}
use Rattle.keeper_rows.specs.declared.rows.TokenRow.{TokenRow}
use Rattle.keeper_reports.specs.Reports.{name_of, token_line}
use Rattle.keeper_reports.proofs.report.add_tokens.Given as goal

abbrev pub invariant-loop-row : goal.invariant-loop-row
invariant-loop-row l =
    l.out.items ≡ l.fn.out.items ++ flat_map (λ (row : Bor TokenRow). token_line (name_of l.tables.accounts row.now.user) row.now) (take l.row-index l.rows)
