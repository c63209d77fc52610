use Rattle.std.proofs.Common.{◌+◌, ℕ, refl, sym, ap, ◌∙◌}
use Rattle.facts.proofs.NoteLemmas.{no_notes, noted}
use Rattle.facts.proofs.PlacesLemmas.{got}
use Rattle.facts.proofs.chronicle.note.Goals as goal

pub loop-fact-init : goal.loop-fact-init
loop-fact-init c = (refl, c.requires.empty ∙ sym (no_notes c.args.known), c.requires.len)

pub loop-fact-preserved : goal.loop-fact-preserved
loop-fact-preserved c =
    let so_far = c.loop-fact.invariant in
    let at = got c.args.facts.now c.loop-fact.fact-index c.fact-item.result c.loop-fact-test.true c.fact-item.is in
    let more =
    noted c.args.known c.args.facts.now c.loop-fact.fact-index c.fact-item.result c.loop-fact.last c.after.new.carried c.loop-fact.notes.items c.push.new.self.items c.of.result at so_far.0 so_far.1
    c.after.ensures.value c.of.ensures.value c.in_ok-push.ensures.items in
    (more.0, more.1, c.in_ok-push.ensures.len ∙ ap (λ (n : ℕ). n + 1) so_far.2)
