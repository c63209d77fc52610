use Rattle.std.proofs.Common.{ap, sym, ◌∙◌}
use Rattle.login_hall.specs.HallState.{HallState}
use Rattle.login_hall.proofs.Pushes.{sound-started, base_started}
use Rattle.login_hall.proofs.hall.Hall.started.Goals as goal

pub invariant_of-self : goal.invariant_of-self
invariant_of-self c =
    let h = c.self.inside in
    let empty = ap (λ (s : HallState). s.journal) c.self.view_is ∙ c.requires.fresh in
    let waits = ap (λ (s : HallState). s.waiting) c.self.view_is ∙ c.requires.waiting ∙ sym c.start.view_is in
    rw (c.len-self-inside.ensures.value, c.add.ensures.list, waits, empty) (sound-started h.facts.list h.based h.journal.items h.last c.start.inside.facts c.self.invariant empty c.start.invariant)

pub returns-clause-base : goal.returns-clause-base
returns-clause-base c =
    let h = c.self.inside in
    let empty = ap (λ (s : HallState). s.journal) c.self.view_is ∙ c.requires.fresh in
    let waits = ap (λ (s : HallState). s.waiting) c.self.view_is ∙ c.requires.waiting in
    rw (c.len-self-inside.ensures.value, c.add.ensures.list, waits, ← c.self.view_is) (base_started h.facts.list h.based h.journal.items h.last c.args.start c.self.invariant empty)
