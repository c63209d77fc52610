use Rattle.std.proofs.Common.{◌∙◌, option_map, refl}
use Rattle.std.proofs.lemmas.Result.{on_ok_weaker}
use Rattle.toml.specs.View.{view}
use Rattle.toml.specs.declared.value.Value.{Value}
use Rattle.realm_data.proofs.RealmRules.{few_users}
use Rattle.realm_print.proofs.RealmLemmas.{levels_ascend, levels_ranged, clients_ranged, client_count, users_ranged}
use Rattle.realm_print.proofs.print.put_lists.Goals as goal

pub print_levels-requires-clause-order : goal.print_levels-requires-clause-order
print_levels-requires-clause-order c = rw c.as_slice.ensures.items (levels_ascend c.args.parts.now c.requires)

pub print_levels-requires-clause-range : goal.print_levels-requires-clause-range
print_levels-requires-clause-range c = rw c.as_slice.ensures.items (levels_ranged c.args.parts.now c.requires)

pub print_list-requires : goal.print_list-requires
print_list-requires c = rw c.as_slice-2.ensures.items (clients_ranged c.args.parts.now c.requires)

pub print_any-requires : goal.print_any-requires
print_any-requires c = rw c.as_slice-3.ensures.items (users_ranged c.args.parts.now c.requires)

pub returns : goal.returns
returns c =
    let clients = rw c.as_slice-2.ensures.items at c.in_ok-clients.ensures.few in
    let users = rw c.as_slice-3.ensures.items at c.in_ok-users.ensures.few in
    on_ok_weaker c.put_some-2.result (λ last. record {
      acr = option_map (λ (v : Value). view v) c.in_ok-acr.acr;
      clients = view c.in_ok-clients.clients;
      users = option_map (λ (v : Value). view v) c.in_ok-users.users;
      members = last ∙ rw (c.in_ok-put.ensures, c.in_ok-put_some.ensures) refl;
      acr_read = rw c.as_slice.ensures.items at c.in_ok-acr.ensures.read;
      clients_read = clients 1 64 (client_count c.args.parts.now c.requires);
      users_read = users 10000 (few_users c.args.parts.now c.requires);
      acr_plain = c.in_ok-acr.ensures.plain;
      clients_plain = c.in_ok-clients.ensures.plain;
      users_plain = c.in_ok-users.ensures.plain;
    }) c.put_some-2.ensures
