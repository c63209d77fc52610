use Rattle.keeper_reports.proofs.PrintableLemmas.{lines_counted}
use Rattle.keeper_reports.proofs.laws.each_row_has_a_line.Goals as goal

pub returns : goal.returns
returns c = record { lines = lines_counted c.args.tables.now c.args.report c.requires.printable }
