-- What a line does: it asks, begins an ask under a handle, or settles the ask that was begun under one.
use Rattle.std.specs.Prelude.{ℕ, true, nat_le, List, Option, Some, None, option_and_then, codes, if◌then◌else◌}
use Rattle.std.specs.Str.{bytes_eq}
use Rattle.asks.specs.declared.ask.Ask.{Ask}
use Rattle.asks.specs.declared.ask.Ask.TheVariants as asks
use Rattle.ask_pairs.specs.declared.pairs.Pair.{Pair}
use Rattle.ask_pairs.specs.Asks.{ask_of_pairs}
use Rattle.ask_pairs.specs.Pairs.{value_of}
use Rattle.decimal_text.specs.Numbers.{number}
use Rattle.script_lines.specs.declared.step.Step.{Step}
use Rattle.script_lines.specs.declared.step.Step.TheVariants as steps

-- a handle is a number from 1 to 64
abbrev pub handle_from : Option ℕ → Option ℕ
handle_from (Some handle) = if nat_le 1 handle then Some handle else None
handle_from None = None

abbrev pub handle_given : List Pair → Option ℕ
handle_given pairs = handle_from (option_and_then (number 64) (value_of (codes "h") pairs))

-- the ask of a verb and its pairs, by a local administrator where it is one of an administrator
abbrev pub verb_ask : List ℕ → List Pair → Ask
verb_ask verb pairs = ask_of_pairs verb pairs true

-- the ask of the verb that the pairs name, and of the same pairs: `begin` and `settle` are no verbs of an ask
abbrev pub named_ask : Option (List ℕ) → List Pair → Ask
named_ask (Some verb) pairs = verb_ask verb pairs
named_ask None pairs = asks.Bad (codes "verb")

-- the named ask, which may be malformed, begins under the handle
abbrev pub begin : Option ℕ → List Pair → Step
begin (Some handle) pairs = steps.Begin handle (named_ask (value_of (codes "verb") pairs) pairs)
begin None pairs = steps.Ask (asks.Bad (codes "h"))

-- the ask under the handle is settled
abbrev pub settle : Option ℕ → Step
settle (Some handle) = steps.Settle handle
settle None = steps.Ask (asks.Bad (codes "h"))

-- what a verb and its pairs do
unfoldable pub verb_step : List ℕ → List Pair → Step
verb_step verb pairs =
    if bytes_eq verb (codes "begin") then begin (handle_given pairs) pairs
    else if bytes_eq verb (codes "settle") then settle (handle_given pairs)
    else steps.Ask (verb_ask verb pairs)
