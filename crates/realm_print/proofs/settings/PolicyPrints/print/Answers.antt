use Rattle.std.proofs.Common.{codes, refl}
use Rattle.toml.specs.View.{view}
use Rattle.toml.proofs.Views.{view-Table}
use Rattle.realm_print.proofs.FieldLemmas.{begun, more}
use Rattle.realm_print.proofs.TableLemmas.{policy_back}
use Rattle.realm_print.proofs.settings.PolicyPrints.print.Goals as goal

pub returns-clause-read : goal.returns-clause-read
returns-clause-read c =
    let none = begun _ c.new-table.ensures.empty in
    let mode = more (codes "mode") (view c.in_ok-mode.mode) _ _ _ _ c.in_ok-put.ensures refl none in
    let failures = more (codes "max_failures") _ _ _ _ _ c.in_ok-put-2.ensures c.number.ensures mode in
    let increment = more (codes "wait_increment") _ _ _ _ _ c.in_ok-put-3.ensures c.number-2.ensures failures in
    let most = more (codes "max_wait") _ _ _ _ _ c.in_ok-put-4.ensures c.number-3.ensures increment in
    let reset = more (codes "failure_reset") _ _ _ _ _ c.in_ok-put-5.ensures c.number-4.ensures most in
    let check = more (codes "quick_check") _ _ _ _ _ c.in_ok-put-6.ensures c.number-5.ensures reset in
    let wait = more (codes "quick_wait") _ _ _ _ _ c.in_ok-put-7.ensures c.number-6.ensures check in
    λ path. rw (view-Table, wait) (policy_back c.args.self.now (view c.in_ok-mode.mode) c.requires c.in_ok-mode.ensures.read path)
