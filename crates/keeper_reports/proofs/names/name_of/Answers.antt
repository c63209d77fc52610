use Rattle.std.proofs.Common.{◌≡◌, ℕ, Some, None, [], sym, ap, ◌∙◌}
use Rattle.std.specs.Prelude.{Option, position}
use Rattle.std.specs.Option.{option_copied, option_map_or}
use Rattle.std.specs.Ordering.{int_eq}
use Rattle.keeper_rows.specs.declared.rows.AccountRow.{AccountRow}
use Rattle.keeper_reports.proofs.NameLemmas.{found, missed}
use Rattle.keeper_reports.proofs.names.name_of.Goals as goal

pub returns-in-Some : goal.returns-in-Some
returns-in-Some c =
    let is : Some c.in-Some.place.now ≡ position (λ (a : AccountRow). int_eq a.id c.args.id.now) c.args.accounts.now = ap option_copied (sym c.in-Some.is) ∙ c.get.ensures.value ∙ c.requires c.args.id.now in
    let account = found (λ (a : AccountRow). int_eq a.id c.args.id.now) c.args.accounts.now c.in-Some.place.now c.index-accounts-place.result is c.index-accounts-place.is in
    c.as_bytes.ensures.bytes ∙ ap (λ (a : AccountRow). a.name) (sym c.index-accounts-place.is) ∙ sym (ap (λ found_account. option_map_or (λ (a : AccountRow). a.name) found_account []) account)

pub returns-in-None : goal.returns-in-None
returns-in-None c =
    let is : ◌≡◌ {A = Option ℕ} None (position (λ (a : AccountRow). int_eq a.id c.args.id.now) c.args.accounts.now) = ap option_copied (sym c.in-None.is) ∙ c.get.ensures.value ∙ c.requires c.args.id.now in
    sym (ap (λ found_account. option_map_or (λ (a : AccountRow). a.name) found_account []) (missed (λ (a : AccountRow). int_eq a.id c.args.id.now) c.args.accounts.now is))
