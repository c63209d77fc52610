use Rattle.std.proofs.Common.{◌≡◌, Bor, map, nat_cmp, ap, ◌∙◌, rules}
use Rattle.std.proofs.lemmas.Cmp.{nat_cmp_total}
use Rattle.keeper_reports.specs.Order.{in_order}
use Rattle.keeper_reports.proofs.OrderLemmas.{in_order-from_sort_by_key, map-in_order}
use Rattle.keeper_reports.proofs.order.by_serial.Goals as goal

pub returns : goal.returns
returns g c =
    let sorted = in_order-from_sort_by_key nat_cmp_total (λ (row : Bor g.row.R.Denot). g.R.Numbered.serial row.now) c.in_ok-ordered.ordered.items c.sort_by_cached_key.new.self.items c.in_ok-sort_by_cached_key.ensures.sorted c.in_ok-sort_by_cached_key.ensures.stable (λ a r q k. search rules) in
    let collected : map (λ (row : Bor g.row.R.Denot). row.now) c.in_ok-ordered.ordered.items ≡ c.args.rows.now = search rules in
    ap (map (λ (row : Bor g.row.R.Denot). row.now)) sorted ∙ map-in_order nat_cmp g.R.Numbered.serial (λ (row : Bor g.row.R.Denot). row.now) c.in_ok-ordered.ordered.items ∙ ap (in_order nat_cmp g.R.Numbered.serial) collected
