use Rattle.std.proofs.Common.{◌∙◌, ap, sym, map}
use Rattle.conditions.specs.Setup.{step_setup, setup_of}
use Rattle.conditions.specs.Setups.{setups_of, are_configured}
use Rattle.conditions.proofs.Setting.{setup_leaf, setup_test, setup_flow}
use Rattle.conditions.proofs.setup.+setting.Goals as goal

pub setup_of-returns-in-Auth : goal.setup_of-returns-in-Auth
setup_of-returns-in-Auth t c = c.of_step.ensures ∙ ap (step_setup c.args.exec.now.requirement) c.kind_configured.ensures.value ∙ sym (setup_leaf c.args.account.now c.args.exec.now c.in-Auth.kind c.in-Auth.is)

pub setup_of-returns-in-Cond : goal.setup_of-returns-in-Cond
setup_of-returns-in-Cond t c = sym (setup_test c.args.account.now c.args.exec.now c.in-Cond.field-0 c.in-Cond.is)

pub setup_of-returns-in-Sub : goal.setup_of-returns-in-Sub
setup_of-returns-in-Sub t c =
    let inner = c.setups_of-setups.ensures ∙ ap (λ es. setups_of (map (setup_of c.args.account.now) es)) c.as_slice.ensures in
    c.of_step-in-Sub.ensures ∙ ap (step_setup c.args.exec.now.requirement) (c.are_configured.ensures ∙ ap are_configured inner)
    ∙ sym (setup_flow c.args.account.now c.args.exec.now c.in-Sub.execs c.in-Sub.is)
