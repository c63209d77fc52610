-- How far the asks about a root lift the counters.
use Rattle.std.proofs.Common.{◌≡◌, ◌-◌, ◌^◌, List, [], ◌∷◌, ◌++◌, Option, Some, None, refl, arith}
use Rattle.std.specs.Prelude.{Result, Ok, Err}
use Rattle.login_base.specs.declared.id.RootKey.{RootKey}
use Rattle.asks.specs.declared.ask.NewTab.{NewTab}
use Rattle.facts.specs.declared.fact.Fact.{Fact}
use Rattle.facts.specs.declared.tabs.RootSession.{RootSession}
use Rattle.hall_answers.specs.declared.refusal.Refusal.{Refusal}
use Rattle.hall_answers.specs.HasSerials.{HasSerials}
use Rattle.hall_answers.specs.Refusals.{settled}
use Rattle.hall_answers.specs.Setting.{Setting}
use Rattle.hall_answers.proofs.Lifts.{Lifts, lifts, nothing, both, leaves_room}
use Rattle.root_asks.specs.declared.place.Place.{Place}
use Rattle.root_asks.specs.Logout.{live_in, end_facts, due_logout}
use Rattle.root_asks.specs.NewTab.{IsNext, check_new_tab, opening_fact, opening_facts, new_tab_answer, due_new_tab}
use Rattle.root_asks.proofs.PlaceLemmas.{place_checked}
use Rattle.tab_pages.specs.Pages.{seen_now}
use Rattle.tab_pages.proofs.SerialLemmas.{visit_lifts}

-- ---- opens

opened_lifts : (setting : Setting) (place : Place) (live : Option RootSession) → IsNext setting place → Lifts 2 setting.facts (seen_now setting live ++ opening_fact setting place ∷ [])
opened_lifts setting place None next = let r = next.root in let t = next.tab in lifts 2 setting.facts _ (omega (arith, r, t)) (omega arith) refl
opened_lifts setting place (Some own) next = let r = next.root in let t = next.tab in lifts 2 setting.facts _ (omega (arith, r, t)) (omega arith) refl

opening_lifts : (setting : Setting) (place : Place) → IsNext setting place → Lifts 2 setting.facts (opening_facts setting place)
opening_lifts setting place next = opened_lifts setting place place.live next

new_lifts : (setting : Setting) (place : Place) → IsNext setting place → Lifts 3 setting.facts (new_tab_answer setting place).added
unfolding new_tab_answer
new_lifts setting place next =
    let opened = opening_facts setting place in
    both 2 1 setting.facts opened _ (opening_lifts setting place next) (visit_lifts (setting.facts ++ opened) setting _)

place_lifts : (setting : Setting) (new : NewTab) (place : Result Place Refusal) → check_new_tab setting new ≡ place
    → Lifts 3 setting.facts (settled setting.facts None (new_tab_answer setting) place).added
place_lifts setting new (Ok place) h = new_lifts setting place (place_checked setting new place h)
place_lifts setting new (Err refusal) h = nothing 3 setting.facts

pub new_tab_lifts : (setting : Setting) (new : NewTab) → Lifts 3 setting.facts (due_new_tab setting new).added
unfolding due_new_tab
new_tab_lifts setting new = place_lifts setting new (check_new_tab setting new) refl

-- ---- logouts

end_lifts : (old : List Fact) (live : Option RootSession) → Lifts 0 old (end_facts live)
end_lifts old None = nothing 0 old
end_lifts old (Some own) = lifts 0 old _ (omega arith) (omega arith) refl

pub logout_lifts : (setting : Setting) (root : Option RootKey) → Lifts 0 setting.facts (due_logout setting root).added
unfolding due_logout
logout_lifts setting root = end_lifts setting.facts (live_in setting root)

-- ---- room for what comes after

pub opening_leaves_room : (setting : Setting) (place : Place) → IsNext setting place → HasSerials setting.facts (2 ^ 63 - 8) → HasSerials (setting.facts ++ opening_facts setting place) (2 ^ 63)
opening_leaves_room setting place next has = leaves_room 2 setting.facts _ (omega arith) has (opening_lifts setting place next)
