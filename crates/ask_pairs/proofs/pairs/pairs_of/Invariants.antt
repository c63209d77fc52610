use Rattle.std.proofs.Common.{◌≡◌, ◌++◌}
use Rattle.std.specs.Prelude.{map}
use Rattle.form_urlencoded.specs.Form.{raw_pairs}
use Rattle.form_urlencoded.specs.Parse.{raw_pairs_left}
use Rattle.ask_pairs.specs.Pairs.{pair_from}
use Rattle.ask_pairs.proofs.pairs.pairs_of.Given as goal

abbrev pub invariant-loop-name : goal.invariant-loop-name
invariant-loop-name l = l.pairs.items ++ map pair_from (raw_pairs_left l.name-iterator) ≡ map pair_from (raw_pairs l.text)
