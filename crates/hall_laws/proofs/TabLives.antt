-- Which tab an ask is about: one that lives. Later it is expired, and then unknown.
use Rattle.std.proofs.Common.{◌≡◌, ℕ, ◌+◌, ◌*◌, ◌≤◌, Bool, true, false, List, Some, None, refl, subst, arith}
use Rattle.std.specs.Prelude.{Option, Result, Ok, Err, if◌then◌else◌}
use Rattle.std.proofs.lemmas.Bool.{and_parts, leb-true, ltb-true, lt-ltb}
use Rattle.login_base.specs.declared.id.RootKey.{RootKey}
use Rattle.login_base.specs.declared.id.TabKey.{TabKey}
use Rattle.realm_data.specs.declared.realm_parts.RealmParts.{RealmParts}
use Rattle.realm_data.specs.Realm.{is_realm}
use Rattle.facts.specs.declared.fact.Fact.{Fact}
use Rattle.facts.specs.declared.tabs.Opening.{Opening}
use Rattle.facts.specs.Tabs.{tab_state, tab_is_live, tab_is_known}
use Rattle.hall_answers.specs.declared.refusal.Refusal.{Refusal}
use Rattle.hall_answers.specs.declared.refusal.Refusal.TheVariants as refusals
use Rattle.hall_answers.specs.Refusals.{◌>>=◌}
use Rattle.hall_answers.specs.Setting.{Setting}
use Rattle.login_progress.specs.declared.known_tab.KnownTab.{KnownTab}
use Rattle.root_asks.specs.declared.place.Place.{Place}
use Rattle.root_asks.specs.NewTab.{opening_at}
use Rattle.tab_pages.specs.Visit.{tab_in, tab_with, check_known, check_live, check_tab}
use Rattle.hall_laws.specs.Ready.{known_at}

-- ---- lives

-- a tab that lives is known
pub live_is_known : (moment : ℕ) (opening : Opening) → tab_is_live moment opening ≡ true → tab_is_known moment opening ≡ true
live_is_known moment opening live =
    let before = ltb-true moment (opening.moment + 1 * opening.life) live in
    lt-ltb moment (opening.moment + 2 * opening.life) (omega (arith, before))

-- in a realm a tab lives for a minute at least
tab_life : (realm : RealmParts) → is_realm realm ≡ true → 60 ≤ realm.session.tab
unfolding is_realm
tab_life realm h =
    let numbers = (and_parts _ _ (and_parts _ _ (and_parts _ _ (and_parts _ _ (and_parts _ _ (and_parts _ _ h).0).0).0).0).0).0 in
    let limits = (and_parts _ _ (and_parts _ _ (and_parts _ _ (and_parts _ _ numbers).0).0).0).0 in
    leb-true 60 realm.session.tab (and_parts _ _ (and_parts _ _ limits).1).0

-- so a tab that is just opened lives
pub opened_lives : (setting : Setting) (place : Place) → is_realm setting.realm ≡ true → tab_is_live setting.moment (opening_at setting place) ≡ true
opened_lives setting place sound =
    let life = tab_life setting.realm sound in
    lt-ltb setting.moment (setting.moment + 1 * (1000 * setting.realm.session.tab)) (omega (arith, life))

-- ---- the tab that a check finds

-- the root has it with this opening, and it lives
pub record IsShown (facts : List Fact) (moment : ℕ) (root : RootKey) (tab : TabKey) (known : KnownTab) : Type 0 where
  pub opening : Opening
  pub is_opened : (tab_state root tab facts).opening ≡ Some opening
  pub is_live : tab_is_live moment opening ≡ true
  pub is : known_at root tab opening facts ≡ known

lived : (live : Bool) (at known : KnownTab) → ◌≡◌ {A = Result KnownTab Refusal} ((if live then Ok tt else Err refusals.TabExpired) >>= (λ (x : Unit {0}). Ok at)) (Ok known)
    → (live ≡ true) × (at ≡ known)
lived true at known h = (refl, cc)
lived false at known h = absurd cc

living : (facts : List Fact) (moment : ℕ) (root : RootKey) (tab : TabKey) (opening : Opening) (known : KnownTab) (is_known : Bool)
    → (tab_state root tab facts).opening ≡ Some opening
    → ◌≡◌ {A = Result KnownTab Refusal}
    ((if is_known then Ok (known_at root tab opening facts) else Err refusals.UnknownTab) >>= (λ (k : KnownTab). check_live moment k >>= (λ (x : Unit {0}). Ok k))) (Ok known)
    → IsShown facts moment root tab known
living facts moment root tab opening known true is h =
    let both = lived (tab_is_live moment opening) (known_at root tab opening facts) known h in
    record { opening = opening; is_opened = is; is_live = both.0; is = both.1 }
living facts moment root tab opening known false is h = absurd cc

shown_with : (facts : List Fact) (moment : ℕ) (root : RootKey) (tab : TabKey) (known : KnownTab) (found : Option Opening) → (tab_state root tab facts).opening ≡ found
    → ◌≡◌ {A = Result KnownTab Refusal} (tab_with moment root tab (tab_state root tab facts) found >>= (λ (k : KnownTab). check_live moment k >>= (λ (x : Unit {0}). Ok k))) (Ok known)
    → IsShown facts moment root tab known
shown_with facts moment root tab known (Some opening) is h = living facts moment root tab opening known (tab_is_known moment opening) is h
shown_with facts moment root tab known None is h = absurd cc

pub shown : (facts : List Fact) (moment : ℕ) (root : RootKey) (tab : TabKey) (known : KnownTab) → check_tab facts moment (Some root) tab ≡ Ok known → IsShown facts moment root tab known
unfolding check_tab check_known tab_in
shown facts moment root tab known h = shown_with facts moment root tab known (tab_state root tab facts).opening refl h

-- a known tab is as the facts say, and lives
pub record IsKnown (facts : List Fact) (moment : ℕ) (root : Option RootKey) (tab : TabKey) (known : KnownTab) : Type 0 where
  pub is_root : root ≡ Some known.root
  pub is_tab : tab ≡ known.tab
  pub is_state : known.state ≡ tab_state known.root known.tab facts
  pub is_opened : (tab_state known.root known.tab facts).opening ≡ Some known.opening
  pub is_live : tab_is_live moment known.opening ≡ true

pub tab_known : (facts : List Fact) (moment : ℕ) (root : Option RootKey) (tab : TabKey) (known : KnownTab) → check_tab facts moment root tab ≡ Ok known → IsKnown facts moment root tab known
unfolding check_tab check_known
tab_known facts moment (Some root) tab known h =
    let s = shown facts moment root tab known h in
    subst (IsKnown facts moment (Some root) tab) s.is (record { is_root = refl; is_tab = refl; is_state = refl; is_opened = s.is_opened; is_live = s.is_live })
tab_known facts moment None tab known h = absurd cc

-- ---- what the check comes to, by the opening

module _ (facts : List Fact) (moment : ℕ) (root : RootKey) (tab : TabKey) (opening : Opening) (is_opened : (tab_state root tab facts).opening ≡ Some opening) where
  pub lives : tab_is_live moment opening ≡ true → check_tab facts moment (Some root) tab ≡ Ok (known_at root tab opening facts)
  unfolding check_tab check_known tab_in
  lives live = rw (is_opened, live_is_known moment opening live, live) refl

  pub expires : tab_is_live moment opening ≡ false → tab_is_known moment opening ≡ true → check_tab facts moment (Some root) tab ≡ Err refusals.TabExpired
  unfolding check_tab check_known tab_in
  expires live is_known = rw (is_opened, is_known, live) refl

  pub forgets : tab_is_known moment opening ≡ false → check_tab facts moment (Some root) tab ≡ Err refusals.UnknownTab
  unfolding check_tab check_known tab_in
  forgets is_known = rw (is_opened, is_known) refl
