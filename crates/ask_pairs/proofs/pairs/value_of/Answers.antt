use Rattle.std.proofs.Common.{◌≡◌, [], Some, ap, sym, ◌∙◌, rules}
use Rattle.std.specs.Prelude.{filter}
use Rattle.std.specs.Option.{option_copied}
use Rattle.ask_pairs.specs.Pairs.{is_named, only_value}
use Rattle.ask_pairs.proofs.PairLemmas.{filter-none, doubled, once}
use Rattle.ask_pairs.proofs.pairs.value_of.Goals as goal

pub returns-in_err-index : goal.returns-in_err-index
returns-in_err-index c =
    let named = is_named c.args.name.now in
    let absent : filter named c.args.pairs.now ≡ [] = filter-none named c.args.pairs.now (search rules) in
    record { value = ap option_copied c.from_residual.ensures ∙ sym (ap only_value absent) }

pub returns-then-has : goal.returns-then-has
returns-then-has c =
    let named = is_named c.args.name.now in
    record { value = sym (doubled named c.args.pairs.now c.in_ok-index.index (record { name = []; value = [] }) (search rules) (search rules) (search rules) (sym c.if-has.ensures.value)) }

pub returns : goal.returns
returns c =
    let named = is_named c.args.name.now in
    record { value = ap Some c.as_slice.ensures.items ∙ sym (once named c.args.pairs.now c.in_ok-index.index c.index-pairs-index.result (search rules) (search rules) (search rules) (sym c.if-has.ensures.value)) }
