-- What the state of a root says.
use Rattle.std.specs.Prelude.{ℕ, Bool, ◌||◌, nat_lt, is_some}
use Rattle.facts.specs.Tabs.{live_among}
use Rattle.root_states.specs.declared.root.RootState.{RootState}

-- it has a known tab or a live session
abbrev pub is_known : ℕ → RootState → Bool
is_known now state = nat_lt 0 state.tabs || is_some (live_among now state.session)

-- one more tab may be
abbrev pub has_room : RootState → Bool
has_room state = nat_lt state.tabs 300
