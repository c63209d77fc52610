use Rattle.std.proofs.Common.{◌≡◌, Bor, map, ap, ◌∙◌, rules}
use Rattle.std.proofs.lemmas.Cmp.{nat_list_cmp_total}
use Rattle.keeper_rows.specs.Applied.{text_cmp}
use Rattle.keeper_rows.specs.declared.rows.AccountRow.{AccountRow}
use Rattle.keeper_reports.specs.Order.{in_order}
use Rattle.keeper_reports.proofs.OrderLemmas.{in_order-from_sort_by, map-in_order}
use Rattle.keeper_reports.proofs.order.by_name.Goals as goal

pub returns : goal.returns
returns c =
    let sorted = in_order-from_sort_by nat_list_cmp_total (λ (row : Bor AccountRow). row.now.name) c.in_ok-rows.rows.items c.sort_by.new.self.items c.in_ok-sort_by.ensures.sorted c.in_ok-sort_by.ensures.stable (λ a r q k. search rules) in
    let collected : map (λ (row : Bor AccountRow). row.now) c.in_ok-rows.rows.items ≡ c.args.accounts.now = search rules in
    ap (map (λ (row : Bor AccountRow). row.now)) sorted ∙ map-in_order text_cmp (λ (a : AccountRow). a.name) (λ (row : Bor AccountRow). row.now) c.in_ok-rows.rows.items ∙ ap (in_order text_cmp (λ (a : AccountRow). a.name)) collected
