-- What a verb and its pairs ask.
use Rattle.std.specs.Prelude.{ℕ, Bool, true, false, List, Option, Some, None, codes}
use Rattle.asks.specs.declared.ask.Ask.{Ask}
use Rattle.asks.specs.declared.ask.Ask.TheVariants as asks
use Rattle.ask_pairs.specs.declared.browser_verb.BrowserVerb.{BrowserVerb}
use Rattle.ask_pairs.specs.declared.pairs.Pair.{Pair}
use Rattle.ask_pairs.specs.Admin.{admin_ask}
use Rattle.ask_pairs.specs.Browsers.{browser_ask, browser_verb}
use Rattle.ask_pairs.specs.Keys.{root_given}
use Rattle.ask_pairs.specs.Pairs.{value_of}

-- a browser's ask, or an administrator's where the verb is none of a browser's
abbrev pub ask_by : Option BrowserVerb → List ℕ → List Pair → Bool → Ask
ask_by (Some known) verb pairs local = browser_ask known (root_given pairs) pairs
ask_by None verb pairs local = admin_ask local verb pairs

-- the ask of a verb and its pairs, or the first place that is malformed
abbrev pub ask_of_pairs : List ℕ → List Pair → Bool → Ask
ask_of_pairs verb pairs local = ask_by (browser_verb verb) verb pairs local

-- the ask of an administrator with a key, whose verb is a pair too
abbrev pub keyed_from : Option (List ℕ) → List Pair → Ask
keyed_from (Some verb) pairs = admin_ask false verb pairs
keyed_from None pairs = asks.Bad (codes "verb")

abbrev pub keyed_ask : List Pair → Ask
keyed_ask pairs = keyed_from (value_of (codes "verb") pairs) pairs
