-- What an open and a logout are due, where lists of facts answer alike.
use Rattle.std.proofs.Common.{◌≡◌, ℕ, List, ◌++◌, ◌+◌, Option, Some, None, refl, ap, ◌∙◌}
use Rattle.std.specs.Prelude.{Result, Ok}
use Rattle.login_base.specs.declared.draws.Draws.{Draws}
use Rattle.login_base.specs.declared.id.RootKey.{RootKey}
use Rattle.realm_data.specs.declared.realm_parts.RealmParts.{RealmParts}
use Rattle.asks.specs.declared.ask.NewTab.{NewTab}
use Rattle.facts.specs.declared.fact.Fact.{Fact}
use Rattle.facts.specs.Serials.{last_tab_serial}
use Rattle.hall_answers.specs.declared.answer.Answer.{Answer}
use Rattle.hall_answers.specs.Answers.{after_facts, with_root}
use Rattle.hall_answers.specs.declared.refusal.Refusal.{Refusal}
use Rattle.hall_answers.specs.Ids.{root_key}
use Rattle.hall_answers.specs.Refusals.{◌>>=◌}
use Rattle.hall_answers.specs.Setting.{Setting}
use Rattle.login_progress.specs.declared.known_tab.KnownTab.{KnownTab}
use Rattle.root_asks.specs.declared.place.GivenRoot.{GivenRoot}
use Rattle.root_asks.specs.declared.place.Place.{Place}
use Rattle.root_asks.specs.Logout.{live_in, due_logout}
use Rattle.root_asks.specs.NewTab.{check_level, root_given, check_roots, check_tabs, check_room, place_at, check_new_tab, opening_facts, tab_opened, new_tab_answer, due_new_tab}
use Rattle.tab_pages.specs.Pages.{visit_answer}
use Rattle.hall_questions.specs.Questions.{AnswerAlike}
use Rattle.hall_questions.proofs.GrowingAnswers.{grows}
use Rattle.hall_questions.proofs.PagesAlike.{visit_answer_alike}
use Rattle.hall_questions.proofs.RootsAlike.{root_known_alike, roots_alike}
use Rattle.hall_questions.proofs.Shared.{next_alike, under, settled_alike}

module _ (one other : List Fact) (alike : AnswerAlike one other) (realm : RealmParts) (moment : ℕ) (draws : Draws) where
  abbrev first : Setting
  first = under realm moment draws one

  abbrev second : Setting
  second = under realm moment draws other

  -- ---- opens

  given_alike : (root : Option RootKey) → root_given first root ≡ root_given second root
  unfolding root_given
  given_alike None = refl
  given_alike (Some root) =
      rw (alike.tab_serial, root_known_alike one other alike moment root, alike.session root, alike.tabs_in moment root) refl

  roots_room : (given : Option GivenRoot) → check_roots first given ≡ check_roots second given
  unfolding check_roots
  roots_room None = rw (roots_alike one other alike moment) refl
  roots_room (Some given) = refl

  room_alike : (given : Option GivenRoot) → check_room first given ≡ check_room second given
  unfolding check_room check_tabs
  room_alike given = rw (roots_room given, alike.tabs moment) refl

  place_alike : (level : ℕ) (given : Option GivenRoot) → place_at first level given ≡ place_at second level given
  place_alike level None = rw (alike.tab_serial, alike.session (root_key (last_tab_serial other + 1) draws)) refl
  place_alike level (Some given) = rw (alike.tab_serial) refl

  abbrev placed : Setting → Option GivenRoot → ℕ → Result Place Refusal
  placed setting given level = do
    room ← check_room setting given
    Ok (place_at setting level given)

  placed_alike : (given : Option GivenRoot) (level : ℕ) → placed first given level ≡ placed second given level
  placed_alike given level = rw (room_alike given, place_alike level given) refl

  new_tab_gate : (new : NewTab) → check_new_tab first new ≡ check_new_tab second new
  unfolding check_new_tab
  new_tab_gate new =
      let given = root_given second new.root in
      let level = check_level realm new in
      rw (given_alike new.root) (next_alike level level (placed first given) (placed second given) refl (placed_alike given))

  opening_alike : (place : Place) → opening_facts first place ≡ opening_facts second place
  opening_alike place = rw (alike.version) refl

  -- the tab that was opened, over facts that answer alike
  opened_alike : (place : Place) (more : List Fact) → tab_opened (one ++ more) first place ≡ tab_opened (other ++ more) second place
  opened_alike place more = rw ((grows one other more alike).tab place.root place.tab, alike.version) refl

  abbrev opened_with : List Fact → Setting → Place → List Fact → Answer
  opened_with facts setting place more =
      with_root place.root (after_facts more (visit_answer (facts ++ more) setting (tab_opened (facts ++ more) setting place)))

  answer_alike : (place : Place) → new_tab_answer first place ≡ new_tab_answer second place
  unfolding new_tab_answer
  answer_alike place =
      let more = opening_facts second place in
      let ends = λ (answer : Answer). with_root place.root (after_facts more answer) in
      ap (opened_with one first place) (opening_alike place)
      ∙ ap (λ (known : KnownTab). ends (visit_answer (one ++ more) first known)) (opened_alike place more)
      ∙ ap ends (visit_answer_alike (one ++ more) (other ++ more) (grows one other more alike) one other realm moment draws (tab_opened (other ++ more) second place))

  pub new_tab_alike : (new : NewTab) → due_new_tab first new ≡ due_new_tab second new
  unfolding due_new_tab
  new_tab_alike new =
      settled_alike one other alike None (new_tab_answer first) (new_tab_answer second) (check_new_tab first new) (check_new_tab second new)
      answer_alike (new_tab_gate new)

  -- ---- logouts

  live_alike : (root : Option RootKey) → live_in first root ≡ live_in second root
  live_alike None = refl
  live_alike (Some root) = rw (alike.session root) refl

  pub logout_alike : (root : Option RootKey) → due_logout first root ≡ due_logout second root
  unfolding due_logout
  logout_alike root = rw (live_alike root) refl
