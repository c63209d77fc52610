-- What is carried from fact to fact.
use Rattle.std.specs.Prelude.{ℕ, None, is_some}
use Rattle.login_base.specs.declared.id.RootKey.{RootKey}
use Rattle.facts.specs.declared.fact.Fact.{Fact}
use Rattle.facts.specs.Roots.{opens_known, opens_known_in}
use Rattle.facts.specs.Tabs.{session_after}
use Rattle.fact_scans.specs.Capped.{one_more}
use Rattle.root_states.specs.declared.root.RootState.{RootState}
use Rattle.root_states.specs.Count.{root_made}

abbrev pub root_after : ℕ → RootKey → RootState → Fact → RootState
root_after now root state fact =
    record {
      session = session_after root state.session fact;
      tabs = one_more 300 (opens_known_in now root fact) state.tabs;
    }

-- before the first fact
abbrev pub no_root : RootState
no_root = record { session = None; tabs = 0 }

-- how many tabs are known
abbrev pub tabs_after : ℕ → ℕ → Fact → ℕ
tabs_after now n fact = one_more 262144 (opens_known now fact) n

-- how many facts can make a root known
abbrev pub roots_after : ℕ → ℕ → Fact → ℕ
roots_after now n fact = one_more 65536 (is_some (root_made now fact)) n
