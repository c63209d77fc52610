use Rattle.keeper_reports.proofs.PrintableLemmas.{bytes_told}
use Rattle.keeper_reports.proofs.laws.bytes_are_printable.Goals as goal

pub returns : goal.returns
returns c = record { bytes = bytes_told c.args.tables.now c.args.report c.requires.printable }
