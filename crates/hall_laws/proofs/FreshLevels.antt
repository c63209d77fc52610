-- Which levels are fresh in a tab.
use Rattle.std.proofs.Common.{◌≡◌, ℕ, ◌-◌, ◌*◌, ◌≤◌, Bool, true, false, ◌&&◌, List, [], ◌∷◌, ◌++◌, Some, None, refl, sym, ap, ◌∙◌, arith}
use Rattle.std.specs.Prelude.{Option, ◌==◌, if◌then◌else◌}
use Rattle.std.specs.List.{flat_map}
use Rattle.std.specs.Option.{option_or}
use Rattle.std.proofs.lemmas.Bool.{le-ltb}
use Rattle.login_base.specs.IdText.{same_id}
use Rattle.login_base.specs.declared.id.SessionId.{SessionId}
use Rattle.login_base.specs.declared.id.UserId.{UserId}
use Rattle.conditions.specs.Truth.{last_moment, is_young}
use Rattle.flow_tree.specs.declared.exec.Exec.{Exec}
use Rattle.flow_truths.specs.Truth.{is_fresh, cookie_holds}
use Rattle.facts.specs.declared.fact.Fact.{Fact}
use Rattle.facts.specs.declared.fact.Fact.TheVariants as events
use Rattle.facts.specs.declared.tabs.RootSession.{RootSession}
use Rattle.facts.specs.Levels.{level_recorded, levels_of}
use Rattle.facts.specs.Tabs.{live_session}
use Rattle.facts.proofs.PlacesLemmas.{option_or_none}
use Rattle.login_progress.specs.declared.known_tab.KnownTab.{KnownTab}
use Rattle.login_progress.specs.Login.{login_in}
use Rattle.hall_laws.specs.Levels.{reached_by, last_reached}

-- ---- the last moment of a level

one_recorded : (level own moment : ℕ) (same : Bool) (rest : List (ℕ × ℕ))
    → last_moment level ((if same then (own, moment) ∷ [] else []) ++ rest) ≡ option_or (last_moment level rest) (if same && own == level then Some moment else None)
unfolding last_moment
one_recorded level own moment true rest = refl
one_recorded level own moment false rest = sym (option_or_none (last_moment level rest))

recorded : (session : SessionId) (level : ℕ) (fact : Fact) (rest : List (ℕ × ℕ))
    → last_moment level (level_recorded session fact ++ rest) ≡ option_or (last_moment level rest) (reached_by session level fact)
recorded session level (events.Level of own moment) rest = one_recorded level own moment (same_id of.0 session.0) rest
recorded session level fact rest = sym (option_or_none (last_moment level rest))

pub reached_last : (session : SessionId) (level : ℕ) (facts : List Fact) → last_moment level (levels_of session facts) ≡ last_reached session level facts
unfolding levels_of last_moment
reached_last session level [] = refl
reached_last session level (fact ∷ facts) =
    recorded session level fact (flat_map (level_recorded session) facts)
    ∙ ap (λ (o : Option ℕ). option_or o (reached_by session level fact)) (reached_last session level facts)

-- ---- fresh levels

young_at : (age moment : ℕ) (last : Option ℕ) (reached : ℕ) → last ≡ Some reached → 1000 * age ≤ moment - reached → is_young age moment last ≡ false
young_at age moment last reached is h = ap (is_young age moment) is ∙ le-ltb (moment - reached) (1000 * age) h

never_young : (moment : ℕ) (last : Option ℕ) → is_young 0 moment last ≡ false
never_young moment None = refl
never_young moment (Some reached) = le-ltb (moment - reached) (1000 * 0) (omega arith)

module _ (facts : List Fact) (moment : ℕ) (known : KnownTab) (who : Option UserId) (tree : List Exec) where
  module _ (own : RootSession) (live : live_session moment known.state ≡ Some own) where
    pub fresh_is : (level age : ℕ) → is_fresh (login_in facts moment known who tree).view level age ≡ is_young age moment (last_reached own.session level facts)
    unfolding login_in
    fresh_is level age = rw live (ap (is_young age moment) (reached_last own.session level facts))

    pub unreached_isnt : (level age : ℕ) → last_reached own.session level facts ≡ None → is_fresh (login_in facts moment known who tree).view level age ≡ false
    unreached_isnt level age none = fresh_is level age ∙ ap (is_young age moment) none

    pub aged_isnt : (level age reached : ℕ) → last_reached own.session level facts ≡ Some reached → 1000 * age ≤ moment - reached
        → is_fresh (login_in facts moment known who tree).view level age ≡ false
    aged_isnt level age reached is h = fresh_is level age ∙ young_at age moment (last_reached own.session level facts) reached is h

    pub zero_isnt : (level : ℕ) → is_fresh (login_in facts moment known who tree).view level 0 ≡ false
    zero_isnt level = fresh_is level 0 ∙ never_young moment (last_reached own.session level facts)

  module _ (none : live_session moment known.state ≡ None) where
    pub stale_all : (level age : ℕ) → is_fresh (login_in facts moment known who tree).view level age ≡ false
    unfolding login_in
    stale_all level age = rw none refl

    pub cookie_false : cookie_holds (login_in facts moment known who tree).view tree ≡ false
    unfolding login_in
    cookie_false = rw none refl
