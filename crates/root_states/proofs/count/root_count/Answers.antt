use Rattle.std.proofs.Common.{List, Contains, subst, sym, ◌∙◌}
use Rattle.std.proofs.lemmas.List.Elements.{Contains-append_right}
use Rattle.facts.specs.declared.fact.Fact.{Fact}
use Rattle.root_states.specs.Count.{keys_noted, Gains}
use Rattle.root_states.proofs.SetLemmas.{gains_all, set_counts}
use Rattle.root_states.proofs.count.root_count.Goals as goal

pub note_more-requires : goal.note_more-requires
note_more-requires g c =
    record {
      among =
          λ (fact : Fact) (there : Contains c.parts.result.1.now fact).
          subst (λ (fs : List Fact). Contains fs fact) (sym c.parts.ensures.facts)
          (Contains-append_right c.parts.result.0.now.list c.parts.result.1.now fact there);
    }

pub returns : goal.returns
returns g c =
    let both = gains_all c.args.now c.args.facts.now c.new-seen.result c.note_kept.new.seen c.note_more.new.seen
    c.parts.result.0.now.list c.parts.result.1.now c.in_ok-note_kept.ensures c.in_ok-note_more.ensures in
    let all = subst (λ (fs : List Fact). Gains c.new-seen.result (keys_noted c.args.now c.args.facts.now fs) c.note_more.new.seen)
    (sym c.parts.ensures.facts) both in
    c.len.ensures.len
    ∙ set_counts c.args.now c.new-seen.result c.note_more.new.seen c.args.facts.now c.new-seen.ensures.empty all
    c.len.ensures.ordered
