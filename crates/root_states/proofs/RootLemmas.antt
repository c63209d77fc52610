-- How a root stands is what the facts say of it.
use Rattle.std.proofs.Common.{◌≡◌, ℕ, ◌<◌, min, nat_lt, Bool, ◌||◌, List, [], ◌∷◌, ◌++◌, length, filter, Some, None, refl, ap, sym, ◌∙◌, zero-add, arith}
use Rattle.std.specs.Prelude.{fold, is_some}
use Rattle.std.specs.List.{list_any}
use Rattle.std.proofs.lemmas.Bool.Decides.{nat_tests}
use Rattle.login_base.specs.declared.id.RootKey.{RootKey}
use Rattle.facts.specs.declared.fact.Fact.{Fact}
use Rattle.facts.specs.declared.fact.Fact.TheVariants as events
use Rattle.facts.specs.Roots.{opens_known_in, session_of, tabs_known_in, root_is_known}
use Rattle.facts.specs.Serials.{known_serial_after, last_known_serial}
use Rattle.facts.specs.Tabs.{session_after, live_among}
use Rattle.facts.proofs.PlacesLemmas.{fold_append}
use Rattle.facts.proofs.TabLemmas.{lower, all_rise}
use Rattle.root_states.specs.declared.root.RootState.{RootState}
use Rattle.fact_scans.specs.Capped.{one_more}
use Rattle.root_states.specs.Carrying.{root_after, no_root}
use Rattle.root_states.specs.Roots.{is_known, has_room}
use Rattle.fact_scans.proofs.Counting.{counted_from, fewer_by_count, any_counted}

module _ (now : ℕ) (root : RootKey) where
  -- ---- facts that name no root so new

  says_nothing : (n : ℕ) (fact : Fact) → known_serial_after n fact < root.0.serial
      → root_after now root no_root fact ≡ no_root
  says_nothing n (events.Session session (Some of) user moment idle life) less =
      rw (lower of.0 root.0 (omega (arith, less))) refl
  says_nothing n (events.Session session None user moment idle life) less = refl
  says_nothing n (events.Opened of tab version level life moment) less =
      rw (lower of.0 root.0 (omega (arith, less))) refl
  says_nothing n fact less = refl

  say_nothing : (n : ℕ) (facts : List Fact) → fold known_serial_after n facts < root.0.serial
      → fold (root_after now root) no_root facts ≡ no_root
  say_nothing n [] less = refl
  say_nothing n (fact ∷ facts) less =
      let rest = all_rise (known_serial_after n fact) facts in
      ap (λ (state : RootState). fold (root_after now root) state facts)
      (says_nothing n fact (omega (arith, less, rest)))
      ∙ say_nothing (known_serial_after n fact) facts less

  pub nothing_before : (facts : List Fact) → last_known_serial facts < root.0.serial
      → fold (root_after now root) no_root facts ≡ no_root
  unfolding last_known_serial
  nothing_before facts less = say_nothing 0 facts less

  -- ---- what is carried to the end

  session_carried : (state : RootState) (facts : List Fact)
      → (fold (root_after now root) state facts).session ≡ fold (session_after root) state.session facts
  session_carried state [] = refl
  session_carried state (fact ∷ facts) = session_carried (root_after now root state fact) facts

  tabs_carried : (state : RootState) (facts : List Fact)
      → (fold (root_after now root) state facts).tabs
      ≡ fold (λ (m : ℕ) (fact : Fact). one_more 300 (opens_known_in now root fact) m) state.tabs facts
  tabs_carried state [] = refl
  tabs_carried state (fact ∷ facts) = tabs_carried (root_after now root state fact) facts

  pub session_told : (facts : List Fact) → (fold (root_after now root) no_root facts).session ≡ session_of root facts
  unfolding session_of
  session_told facts = session_carried no_root facts

  pub room_told : (facts : List Fact)
      → has_room (fold (root_after now root) no_root facts) ≡ nat_lt (tabs_known_in now root facts) 300
  unfolding tabs_known_in
  room_told facts = fewer_by_count 300 (opens_known_in now root) facts _ (tabs_carried no_root facts)

  tabs_told : (facts : List Fact)
      → (fold (root_after now root) no_root facts).tabs ≡ min (length (filter (opens_known_in now root) facts)) 300
  tabs_told facts =
      tabs_carried no_root facts ∙ counted_from 300 (opens_known_in now root) 0 facts (omega arith)
      ∙ ap (λ (m : ℕ). min m 300) (zero-add (length (filter (opens_known_in now root) facts)))

  some_told : (tabs all : ℕ) → tabs ≡ min all 300 → nat_lt 0 tabs ≡ nat_lt 0 all
  some_told tabs all h = grind (arith, nat_tests)

  pub known_told : (facts : List Fact)
      → is_known now (fold (root_after now root) no_root facts) ≡ root_is_known now facts root
  unfolding root_is_known
  known_told facts =
      let state = fold (root_after now root) no_root facts in
      let some = some_told state.tabs (length (filter (opens_known_in now root) facts)) (tabs_told facts) in
      ap (λ (b : Bool). b || is_some (live_among now state.session)) (some ∙ any_counted (opens_known_in now root) facts)
      ∙ ap (λ s. list_any (opens_known_in now root) facts || is_some (live_among now s)) (session_told facts)

  -- both parts of the facts, one after the other
  pub carried_all : (facts old more : List Fact) (behind last : RootState) → facts ≡ old ++ more
      → behind ≡ fold (root_after now root) no_root old
      → last ≡ fold (root_after now root) behind more → last ≡ fold (root_after now root) no_root facts
  carried_all facts old more behind last is first then =
      then ∙ ap (λ (state : RootState). fold (root_after now root) state more) first
      ∙ sym (fold_append (root_after now root) no_root old more) ∙ ap (fold (root_after now root) no_root) (sym is)
