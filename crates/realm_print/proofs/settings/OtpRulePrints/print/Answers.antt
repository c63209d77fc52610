use Rattle.std.proofs.Common.{codes}
use Rattle.toml.proofs.Views.{view-Table}
use Rattle.realm_print.proofs.FieldLemmas.{begun, more}
use Rattle.realm_print.proofs.TableLemmas.{otp_back}
use Rattle.realm_print.proofs.settings.OtpRulePrints.print.Goals as goal

pub returns-clause-read : goal.returns-clause-read
returns-clause-read c =
    let none = begun _ c.new-table.ensures.empty in
    let digits = more (codes "digits") _ _ _ _ _ c.in_ok-put.ensures c.from.ensures none in
    let window = more (codes "window") _ _ _ _ _ c.in_ok-put-2.ensures c.from-2.ensures digits in
    λ path. rw (view-Table, window) (otp_back c.args.self.now c.requires path)
