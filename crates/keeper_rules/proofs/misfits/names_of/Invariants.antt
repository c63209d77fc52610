use Rattle.std.proofs.Common.{◌≡◌, take, map, List, ℕ, Bor}
use Rattle.keeper_rows.specs.declared.rows.AccountRow.{AccountRow}
use Rattle.keeper_rules.proofs.misfits.names_of.Given as goal

abbrev pub invariant-loop-account : goal.invariant-loop-account
invariant-loop-account l =
    map (λ (name : Bor (List ℕ)). name.now) l.names.items ≡ map (λ (account : AccountRow). account.name) (take l.account-index l.accounts)
