use Rattle.std.proofs.Common.{◌≡◌, true, subst}
use Rattle.realm_data.specs.Realm.{is_realm}
use Rattle.hall_answers.specs.Setting.{Setting}
use Rattle.hall_laws.proofs.Readiness.{open_done}
use Rattle.hall_laws.proofs.ready.open_completes.Goals as goal

pub returns : goal.returns
returns c =
    let sound = subst (λ (s : Setting). is_realm s.realm ≡ true) c.setting.view_is c.parts-kept.ensures.sound in
    record { done = open_done c.args.setting.now c.args.new.now c.args.user sound }
