-- The executions of a flow taken together, one after the other.
use Rattle.std.specs.Prelude.{Bool, false, not, ◌&&◌, ◌||◌, if◌then◌else◌, List}
use Rattle.std.specs.List.{list_all, list_any}
use Rattle.flow_tree.specs.declared.exec.Requirement.{Requirement}
use Rattle.flow_tree.specs.declared.verdict.Verdict.{Verdict}
use Rattle.flow_tree.specs.declared.verdict.Tally.{Tally}
use Rattle.flow_tree.specs.Flow.{some_acts, is_required, is_alternative, is_conditional}

abbrev pub tally_of : List Verdict → Tally
tally_of vs = record { acts = some_acts vs; each_holds = list_all (λ (v : Verdict). not v.acts || v.holds) vs; offer_holds = list_any (λ (v : Verdict). v.offers && v.holds) vs; opens = list_any (λ (v : Verdict). v.opens) vs; blocks = list_any (λ (v : Verdict). v.blocks) vs }

abbrev pub tallied : Tally → Verdict → Tally
tallied t v = record { acts = t.acts || v.acts; each_holds = t.each_holds && (not v.acts || v.holds); offer_holds = t.offer_holds || (v.offers && v.holds); opens = t.opens || v.opens; blocks = t.blocks || v.blocks }

abbrev pub tally_holds : Tally → Bool
tally_holds t = if t.acts then t.each_holds else t.offer_holds

abbrev pub tally_verdict : Requirement → Tally → Verdict
tally_verdict r t = record { acts = is_required r || (is_conditional r && (t.opens && not t.blocks)); offers = is_alternative r; opens = false; blocks = false; holds = tally_holds t }
