use Rattle.std.proofs.Common.{ap, ◌∙◌}
use Rattle.root_states.specs.declared.root.RootState.{RootState}
use Rattle.root_states.specs.Roots.{is_known, has_room}
use Rattle.root_states.proofs.RootLemmas.{carried_all, session_told, known_told, room_told}
use Rattle.root_states.proofs.root.root_state.Goals as goal

pub returns : goal.returns
returns g c =
    let all = carried_all c.args.now c.args.root c.args.facts.now c.parts.result.0.now.list c.parts.result.1.now
    c.fold_kept.result c.fold_in.result c.parts.ensures.facts c.fold_kept.ensures.value c.fold_in.ensures.value in
    record {
      session = ap (λ (state : RootState). state.session) all ∙ session_told c.args.now c.args.root c.args.facts.now;
      known = ap (is_known c.args.now) all ∙ known_told c.args.now c.args.root c.args.facts.now;
      room = ap has_room all ∙ room_told c.args.now c.args.root c.args.facts.now;
    }
