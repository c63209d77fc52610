-- The asks that were begun and wait to be settled.
use Rattle.std.specs.Prelude.{ℕ, Bool, ◌==◌, List, Option, find, remove}
use Rattle.std.specs.List.{list_any, position_or_len}
use Rattle.script_play.specs.declared.begun.BegunAsk.{BegunAsk}

abbrev pub is_under : ℕ → BegunAsk → Bool
is_under handle own = own.handle == handle

-- the ask that waits under a handle
abbrev pub begun_under : ℕ → List BegunAsk → Option BegunAsk
begun_under handle begun = find (is_under handle) begun

-- the handle is in use
abbrev pub is_begun : ℕ → List BegunAsk → Bool
is_begun handle begun = list_any (is_under handle) begun

-- the asks but for the one under the handle
abbrev pub without : ℕ → List BegunAsk → List BegunAsk
without handle begun = remove begun (position_or_len (is_under handle) begun)
