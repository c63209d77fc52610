use Rattle.std.proofs.Common.{◌≡◌, [], ◌∷◌, ◌++◌, refl, sym, ap, ◌∙◌, arith, append_assoc, append-nil}
use Rattle.std.proofs.lemmas.Grind.{common_steps}
use Rattle.std.proofs.lemmas.Result.{err_from_is_err_and}
use Rattle.std.proofs.lemmas.List.{map_push}
use Rattle.std.proofs.lemmas.List.Folds.{list_all-append}
use Rattle.toml.proofs.Views.{Entry}
use Rattle.realm_fields.proofs.LevelLemmas.{goes_on, stops_at, ends, names_ascend}
use Rattle.realm_fields.proofs.levels.levels_from.Goals as goal

pub returns-in_err-level-clause-gives : goal.returns-in_err-level-clause-gives
returns-in_err-level-clause-gives c =
    let e : Entry = (c.in-Some.key.now, c.in-Some.value.now) in
    let iter : c.members.key-iterator ≡ e ∷ c.next.new.self = grind (arith, common_steps) in
    let p = err_from_is_err_and c.from_residual.result c.from_residual.ensures.1 in
    rw (p.1, p.2) (stops_at c.in_err-level.field-0.0 c.args.path.now c.members.levels e c.next.new.self c.members.key-iterator _ iter
    (rw c.as_bytes.ensures.value at c.in_err-level.ensures.gives) c.members.invariant.told)

pub members-preserved : goal.members-preserved
members-preserved c =
    let e : Entry = (c.in-Some.key.now, c.in-Some.value.now) in
    let iter : c.members.key-iterator ≡ e ∷ c.next.new.self = grind (arith, common_steps) in
    let level = c.in_ok-level.level in
    let was = c.members.invariant in
    record {
      can = tt;
      finite = tt;
      told = rw c.in_ok-push.ensures.ok (goes_on c.args.path.now c.members.levels e c.next.new.self c.members.key-iterator level _ iter
          (rw c.as_bytes.ensures.value at c.in_ok-level.ensures.gives) was.told);
      range = rw (c.in_ok-push.ensures.ok, list_all-append, was.range, c.in_ok-level.ensures.range) refl;
      done = was.done ++ e ∷ [];
      whole = was.whole ∙ ap (λ t. was.done ++ t) iter ∙ sym (append_assoc was.done (e ∷ []) c.next.new.self);
      names = rw (c.in_ok-push.ensures.ok, map_push, was.names, map_push, c.in_ok-level.ensures.name, c.as_bytes.ensures.value) refl;
    }

pub returns-clause-gives : goal.returns-clause-gives
returns-clause-gives c =
    let none : c.members.key-iterator ≡ [] = grind (arith, common_steps) in
    ends c.args.path.now c.members.levels c.members.key-iterator _ none c.members.invariant.told

pub returns-clause-order : goal.returns-clause-order
returns-clause-order c =
    let was = c.members.invariant in
    let none : c.members.key-iterator ≡ [] = grind (arith, common_steps) in
    let all : c.args.table.now.entries ≡ was.done = was.whole ∙ rw none (append-nil was.done) in
    names_ascend c.members.levels was.done was.names (rw all at c.iter-key-items.ensures.ordered)
