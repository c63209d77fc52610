use Rattle.std.proofs.Common.{◌≡◌, ℕ, List, Bor, Option, map, subst, sym, refl, ◌∙◌}
use Rattle.std.specs.Prelude.{IfOk}
use Rattle.std.specs.Cmp.Lexicographic.{slice_cmp}
use Rattle.std.specs.Ordering.{is_eq, nat_cmp}
use Rattle.std.specs.Str.{bytes_eq}
use Rattle.std.proofs.lemmas.Map.Text.{is_eq-slice_cmp}
use Rattle.keeper_rows.specs.declared.rows.AccountRow.{AccountRow}
use Rattle.keeper_rules.specs.Misfits.{same_name, repeated_name}
use Rattle.keeper_rules.proofs.RepeatLemmas.{repeats_by}
use Rattle.keeper_rules.proofs.misfits.repeated_name.Goals as goal

pub returns-clause-ok : goal.returns-clause-ok
unfolding repeated_name
returns-clause-ok c =
    let names = c.in_ok-names.names.items in
    let first = repeats_by bytes_eq (λ (a b : Bor (List ℕ)). is_eq (slice_cmp nat_cmp a.now b.now)) (λ (a : Bor (List ℕ)). a.now) (λ a b. is_eq-slice_cmp a.now b.now) (map (λ (a : Bor (List ℕ)). a.now) names) names refl in
    let second = repeats_by bytes_eq same_name (λ (a : AccountRow). a.name) (λ a b. refl) (map (λ (a : Bor (List ℕ)). a.now) names) c.args.accounts.now c.in_ok-names.ensures in
    let found = rw c.as_slice.ensures.value at c.first_repeat.ensures.ok in
    subst (λ (place : Option ℕ). IfOk c.first_repeat.result (λ p. p ≡ place)) (sym first ∙ second) found
