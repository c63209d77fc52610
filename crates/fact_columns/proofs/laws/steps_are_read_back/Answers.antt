use Rattle.std.proofs.Common.{◌≡◌, refl}
use Rattle.std.specs.Prelude.{Some, decimal}
use Rattle.keeper_columns.specs.Lists.{list_in}
use Rattle.keeper_columns.specs.Words.{step_in, is_step_before}
use Rattle.fact_columns.specs.Words.{kept_steps, near_steps, is_step, steps_text}
use Rattle.fact_columns.proofs.ItemLemmas.{step_read, steps_tie, near_kept, near_all}
use Rattle.fact_columns.proofs.ReadBack.{are_read, read_back, in_order_up, in_order_all}
use Rattle.fact_columns.proofs.laws.steps_are_read_back.Goals as goal

pub returns : goal.returns
returns c =
    let steps = c.args.steps.now in
    let kept = kept_steps steps in
    let within = in_order_all is_step_before is_step (near_steps steps) (near_all steps c.requires.range) in
    let listed : list_in step_in is_step_before (steps_text steps) ≡ Some kept =
    read_back decimal step_in is_step_before kept (are_read decimal step_in is_step step_read kept within) (in_order_up is_step_before steps_tie (near_steps steps)) in
    record { steps = rw (listed, near_kept steps) refl }
