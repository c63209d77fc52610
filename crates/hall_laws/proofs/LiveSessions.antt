-- Which session of a root is live.
use Rattle.std.proofs.Common.{◌≡◌, ℕ, ◌-◌, ◌*◌, ◌<◌, ◌≤◌, Bool, true, false, nat_lt, List, Some, None, refl, ap, ◌∙◌}
use Rattle.std.specs.Prelude.{Option, option_and_then, if◌then◌else◌}
use Rattle.std.specs.List.{list_any}
use Rattle.std.proofs.lemmas.Bool.{and_left, and_right, le-ltb, lt-ltb}
use Rattle.login_base.specs.declared.id.RootKey.{RootKey}
use Rattle.login_base.specs.declared.id.TabKey.{TabKey}
use Rattle.facts.specs.declared.fact.Fact.{Fact}
use Rattle.facts.specs.declared.tabs.RootSession.{RootSession}
use Rattle.facts.specs.Places.{last_of}
use Rattle.facts.specs.Tabs.{tab_state, is_live, live_among, live_session}
use Rattle.hall_laws.specs.Levels.{behind_beginning, last_used}
use Rattle.hall_laws.specs.TabHistory.{session_by, ends, session_behind}
use Rattle.hall_laws.proofs.TabFolds.{session_is}

-- a root that began none has none
pub none_lives : (facts : List Fact) (root : RootKey) (tab : TabKey) (moment : ℕ) → last_of (session_by root) facts ≡ None → live_session moment (tab_state root tab facts) ≡ None
none_lives facts root tab moment none =
    ap (live_among moment) (session_is root tab facts ∙ ap (option_and_then (session_behind (behind_beginning root facts))) none)

module _ (facts : List Fact) (root : RootKey) (tab : TabKey) (moment : ℕ) (begun : RootSession) (is_begun : last_of (session_by root) facts ≡ Some begun) where
  abbrev used : RootSession
  used = record begun { seen = last_used root begun facts }

  abbrev is_ended : Bool
  is_ended = list_any (ends begun.session) (behind_beginning root facts)

  abbrev left : Bool → Option RootSession
  left ended = if ended then None else Some used

  -- it is left as it was used last, unless it was ended
  session_left : (tab_state root tab facts).session ≡ left is_ended
  session_left = session_is root tab facts ∙ ap (option_and_then (session_behind (behind_beginning root facts))) is_begun

  pub ended_isnt : is_ended ≡ true → live_session moment (tab_state root tab facts) ≡ None
  ended_isnt e = ap (live_among moment) (session_left ∙ ap left e)

  dead : (ended : Bool) → is_live moment used ≡ false → live_among moment (left ended) ≡ None
  dead true l = refl
  dead false l = ap (λ (live : Bool). if live then Some used else None) l

  dead_isnt : is_live moment used ≡ false → live_session moment (tab_state root tab facts) ≡ None
  dead_isnt l = ap (live_among moment) session_left ∙ dead is_ended l

  pub idle_isnt : 1000 * begun.idle ≤ moment - last_used root begun facts → live_session moment (tab_state root tab facts) ≡ None
  idle_isnt h = dead_isnt (and_left (nat_lt (moment - last_used root begun facts) (1000 * begun.idle)) (nat_lt (moment - begun.opened) (1000 * begun.max)) (le-ltb _ _ h))

  pub old_isnt : 1000 * begun.max ≤ moment - begun.opened → live_session moment (tab_state root tab facts) ≡ None
  old_isnt h = dead_isnt (and_right (nat_lt (moment - last_used root begun facts) (1000 * begun.idle)) (nat_lt (moment - begun.opened) (1000 * begun.max)) (le-ltb _ _ h))

  pub it_lives : is_ended ≡ false → moment - last_used root begun facts < 1000 * begun.idle → moment - begun.opened < 1000 * begun.max
      → live_session moment (tab_state root tab facts) ≡ Some used
  it_lives unended fresh young =
      ap (live_among moment) (session_left ∙ ap left unended)
      ∙ rw (lt-ltb (moment - last_used root begun facts) (1000 * begun.idle) fresh, lt-ltb (moment - begun.opened) (1000 * begun.max) young) refl
