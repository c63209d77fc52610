use Rattle.std.proofs.Common.{ap, subst, ◌∙◌}
use Rattle.login_hall.specs.HallState.{HallState}
use Rattle.login_hall.specs.Start.{IsStart}
use Rattle.login_hall.proofs.Pushes.{all_based}
use Rattle.login_hall.proofs.StartLemmas.{no_mark, started_has_realm, started_raises}
use Rattle.login_hall.proofs.hall.Hall.start.Goals as goal

pub start_facts-requires-clause-stored : goal.start_facts-requires-clause-stored
start_facts-requires-clause-stored c =
    let h = c.self.inside in
    let empty = ap (λ (s : HallState). s.journal) c.self.view_is ∙ c.requires.fresh in
    let whole = all_based h.facts.list h.based h.journal.items h.last c.self.invariant empty ∙ ap (λ (s : HallState). s.base) c.self.view_is in
    rw whole c.requires.stored

pub start_facts-requires-clause-version : goal.start_facts-requires-clause-version
start_facts-requires-clause-version c =
    let h = c.self.inside in
    let empty = ap (λ (s : HallState). s.journal) c.self.view_is ∙ c.requires.fresh in
    let whole = all_based h.facts.list h.based h.journal.items h.last c.self.invariant empty ∙ ap (λ (s : HallState). s.base) c.self.view_is in
    rw whole c.requires.version

pub invariant_of-result : goal.invariant_of-result
invariant_of-result c = no_mark c.self.inside.facts.list c.args.realm c.in_ok-facts.facts c.in_ok-facts.ensures

pub returns-clause-start : goal.returns-clause-start
returns-clause-start c =
    let h = c.self.inside in
    let empty = ap (λ (s : HallState). s.journal) c.self.view_is ∙ c.requires.fresh in
    let whole = all_based h.facts.list h.based h.journal.items h.last c.self.invariant empty ∙ ap (λ (s : HallState). s.base) c.self.view_is in
    subst (λ l. IsStart l c.args.realm c.in_ok-facts.facts) whole c.in_ok-facts.ensures

pub returns-clause-realm : goal.returns-clause-realm
returns-clause-realm c =
    let h = c.self.inside in
    let empty = ap (λ (s : HallState). s.journal) c.self.view_is ∙ c.requires.fresh in
    let whole = all_based h.facts.list h.based h.journal.items h.last c.self.invariant empty ∙ ap (λ (s : HallState). s.base) c.self.view_is in
    started_has_realm _ c.args.realm c.in_ok-facts.facts (subst (λ l. IsStart l c.args.realm c.in_ok-facts.facts) whole c.in_ok-facts.ensures)

pub returns-clause-raises : goal.returns-clause-raises
returns-clause-raises c =
    let h = c.self.inside in
    let empty = ap (λ (s : HallState). s.journal) c.self.view_is ∙ c.requires.fresh in
    let whole = all_based h.facts.list h.based h.journal.items h.last c.self.invariant empty ∙ ap (λ (s : HallState). s.base) c.self.view_is in
    started_raises _ c.args.realm c.in_ok-facts.facts (subst (λ l. IsStart l c.args.realm c.in_ok-facts.facts) whole c.in_ok-facts.ensures)
