use Rattle.std.proofs.Common.{ℕ, Vec, sym, ap, ◌∙◌, arith}
use Rattle.std.specs.Prelude.{vec_len}
use Rattle.facts.specs.Subjects.{is_account}
use Rattle.facts.proofs.AccountPlaces.{none, with_place, without_place}
use Rattle.facts.proofs.PlacesLemmas.{got}
use Rattle.facts.proofs.chronicle.place_accounts.Goals as goal
use Rattle.facts.proofs.chronicle.place_accounts.Goals.{then-is_account+in_ok-push, else-is_account}

pub loop-fact-init : goal.loop-fact-init
loop-fact-init c = (omega arith, c.requires.empty ∙ sym (none c.args.before), omega (arith, c.requires.len))

pub loop-fact-preserved : goal.loop-fact-preserved
loop-fact-preserved c =
    let so_far = c.loop-fact.invariant in
    let at = got c.args.facts.now c.loop-fact.fact-index c.fact-item.result c.loop-fact-test.true c.fact-item.is in
    let is = sym (c.is_account.ensures.value ∙ ap is_account c.of.ensures.value) in
    let place = so_far.0 in
    let len = so_far.2 in
    elim c.if-is_account.branch [
      | then-is_account+in_ok-push w ↦ (
        omega (arith, place),
        with_place c.args.before c.args.facts.now c.loop-fact.fact-index c.fact-item.result c.loop-fact.place c.loop-fact.places.items c.if-is_account.places.items
            at (is ∙ w.if-is_account.true) so_far.0 so_far.1 (ap (λ (v : Vec ℕ _). v.items) w.places-is ∙ w.in_ok-push.ensures.items),
        (let same = ap vec_len w.places-is in let more = w.in_ok-push.ensures.len in omega (arith, len, same, more)),
      )
      | else-is_account w ↦ (
        omega (arith, place),
        without_place c.args.before c.args.facts.now c.loop-fact.fact-index c.fact-item.result c.if-is_account.places.items
            at (is ∙ w.if-is_account.false) (ap (λ (v : Vec ℕ _). v.items) w.places-is ∙ so_far.1),
        (let same = ap vec_len w.places-is in omega (arith, len, same)),
      )
    ]
