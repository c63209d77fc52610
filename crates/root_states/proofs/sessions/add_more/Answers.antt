use Rattle.std.proofs.Common.{Option, ap, ◌∙◌}
use Rattle.std.specs.Prelude.{fold}
use Rattle.facts.specs.declared.tabs.RootSession.{RootSession}
use Rattle.facts.specs.Sessions.{session_later}
use Rattle.root_states.proofs.OutlivedLemmas.{moved_first, none_behind}
use Rattle.root_states.proofs.sessions.add_more.Goals as goal

pub loop-fact-preserved : goal.loop-fact-preserved
loop-fact-preserved c =
    let left =
    c.fold_in-left.ensures.value
    ∙ ap (λ (own : Option RootSession). fold session_later own c.in-Some.later.now) c.session_begun.ensures in
    moved_first c.args.now _ c.loop-fact.ended c.add_outlived.new.ended c.in-Some.fact.now c.in-Some.later.now
    c.loop-fact.rest.now c.fold_in-left.result c.in-Some.ensures.cases.0 left c.loop-fact.invariant c.in_ok-add_outlived.ensures

pub returns : goal.returns
returns c =
    none_behind c.args.now _ c.loop-fact.ended c.loop-fact.rest.now c.in_default.ensures.cases c.loop-fact.invariant
