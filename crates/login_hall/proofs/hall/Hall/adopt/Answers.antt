use Rattle.std.proofs.Common.{◌≡◌, true, ap, sym, subst, ◌∙◌}
use Rattle.facts.specs.declared.entry.Entry.{Entry}
use Rattle.facts.specs.Realms.{has_realm}
use Rattle.facts.proofs.InForce.{has_realm_more}
use Rattle.login_hall.specs.HallState.{HallState}
use Rattle.login_hall.proofs.Pushes.{sound-push, chronicle_of-grown}
use Rattle.login_hall.proofs.hall.Hall.adopt.Goals as goal

pub invariant_of-self : goal.invariant_of-self
invariant_of-self c =
    let h = c.self.inside in
    let next = rw (← c.self.view_is, ← c.proposal.view_is) at c.requires.follows in
    let waits = ap (λ (s : HallState). s.waiting) c.self.view_is ∙ c.requires.waiting ∙ ap (λ (e : Entry). e.added) (sym c.proposal.view_is) in
    rw (c.put.ensures.items, c.add.ensures.list, waits) (sound-push h.facts.list h.based h.journal.items h.last c.proposal.inside.entry c.self.invariant next)

pub returns-clause-facts : goal.returns-clause-facts
returns-clause-facts c =
    let h = c.self.inside in
    let waits = ap (λ (s : HallState). s.waiting) c.self.view_is ∙ c.requires.waiting ∙ ap (λ (e : Entry). e.added) (sym c.proposal.view_is) in
    rw (c.put.ensures.items, c.add.ensures.list, waits, ← c.self.view_is, ← c.proposal.view_is) (chronicle_of-grown h.facts.list h.based h.journal.items c.proposal.inside.entry c.self.invariant.within)

pub returns-clause-realm : goal.returns-clause-realm
returns-clause-realm c h = subst (λ l. has_realm l ≡ true) (sym (returns-clause-facts c)) (has_realm_more _ _ h)
