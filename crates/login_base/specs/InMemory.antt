-- What the memory forms of the outside keep.
use Rattle.std.specs.Prelude.{ℕ, Bool, List, Contains, if◌then◌else◌}
use Rattle.login_base.specs.Outside.{counted}

-- the numbers of the calls that fail, from 1, how many calls there were, and how many faults
pub record CallState : Type 0 where
  pub failing : List ℕ
  pub count : ℕ
  pub faults : ℕ

abbrev pub no_calls : List ℕ → CallState
no_calls failing = record { failing = failing; count = 0; faults = 0 }

-- the next call is to fail
abbrev pub FailsNext : CallState → Type 0
FailsNext calls = Contains calls.failing (counted calls.count)

-- one fault more
abbrev pub faulted : CallState → CallState
faulted calls = record calls { faults = counted calls.faults }

-- one call more, which is a fault where it failed
abbrev pub called : Bool → CallState → CallState
called failed calls =
    record calls { count = counted calls.count; faults = if failed then counted calls.faults else calls.faults }

-- a source: the bytes still to come, its calls, and the count of ends
pub record SourceState : Type 0 where
  pub left : List ℕ
  pub calls : CallState
  pub ends : ℕ

-- a sink: the bytes written, and its calls
pub record SinkState : Type 0 where
  pub written : List ℕ
  pub calls : CallState
