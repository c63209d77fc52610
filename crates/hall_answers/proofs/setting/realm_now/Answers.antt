use Rattle.std.proofs.Common.{◌≡◌, sym, ap, ◌∙◌}
use Rattle.std.specs.Option.{option_copied}
use Rattle.std.specs.Prelude.{is_some}
use Rattle.facts.specs.Realms.{current_realm, has_realm}
use Rattle.hall_answers.proofs.setting.realm_now.Goals as goal

pub unreachable-requires : goal.unreachable-requires
unfolding has_realm
unreachable-requires c =
    let here = c.requires in
    let there : is_some (current_realm c.args.chronicle.now.list) ≡ is_some (option_copied c.current_realm.result) = ap (λ l. is_some (current_realm l)) (sym c.of.ensures.facts) ∙ sym (ap is_some c.current_realm.ensures.value) in
    let none = rw (there, c.in-None.is) at here in
    absurd cc
