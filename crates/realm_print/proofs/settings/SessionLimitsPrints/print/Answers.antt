use Rattle.std.proofs.Common.{codes}
use Rattle.toml.proofs.Views.{view-Table}
use Rattle.realm_print.proofs.FieldLemmas.{begun, more}
use Rattle.realm_print.proofs.TableLemmas.{session_back}
use Rattle.realm_print.proofs.settings.SessionLimitsPrints.print.Goals as goal

pub returns-clause-read : goal.returns-clause-read
returns-clause-read c =
    let s = c.args.self.now in
    let none = begun _ c.new-table.ensures.empty in
    let idle = more (codes "idle") _ _ _ _ _ c.in_ok-put.ensures c.number.ensures none in
    let max = more (codes "max") _ _ _ _ _ c.in_ok-put-2.ensures c.number-2.ensures idle in
    let tab = more (codes "tab") _ _ _ _ _ c.in_ok-put-3.ensures c.number-3.ensures max in
    λ path. rw (view-Table, tab) (session_back s c.requires path)
