-- Where a tab is opened.
use Rattle.std.proofs.Common.{◌≡◌, ℕ, ◌≤◌, Bool, true, false, nat_le, Option, Some, None, refl, sym, subst, arith}
use Rattle.std.specs.Prelude.{Result, Ok, Err, if◌then◌else◌}
use Rattle.std.proofs.lemmas.Bool.{and_parts, leb-true}
use Rattle.login_base.specs.declared.id.RootKey.{RootKey}
use Rattle.asks.specs.declared.ask.NewTab.{NewTab}
use Rattle.facts.specs.Roots.{root_is_known}
use Rattle.facts.specs.Serials.{last_tab_serial}
use Rattle.hall_answers.specs.declared.refusal.Refusal.{Refusal}
use Rattle.hall_answers.specs.Refusals.{◌>>=◌}
use Rattle.hall_answers.specs.Setting.{Setting}
use Rattle.root_asks.specs.declared.place.Place.{Place}
use Rattle.root_asks.specs.NewTab.{IsNext, check_level, check_new_tab, check_room, given_root, is_given, place_at, root_given}

in_given : (setting : Setting) (level : ℕ) (root : RootKey) → root.0.serial ≤ last_tab_serial setting.facts → IsNext setting (place_at setting level (Some (given_root setting root)))
in_given setting level root made = record { root = omega (arith, made); tab = omega arith }

in_new : (setting : Setting) (level : ℕ) → IsNext setting (place_at setting level None)
in_new setting level = record { root = omega arith; tab = omega arith }

-- in a root that was made, or in a new one
place_is_next : (setting : Setting) (level : ℕ) (root : Option RootKey) → IsNext setting (place_at setting level (root_given setting root))
unfolding root_given
place_is_next setting level None = in_new setting level
place_is_next setting level (Some root) = by_test (is_given setting root) refl
  where
    by_test : (given : Bool) → is_given setting root ≡ given → IsNext setting (place_at setting level (if given then Some (given_root setting root) else None))
    by_test true h = in_given setting level root (leb-true _ _ (and_parts (nat_le root.0.serial (last_tab_serial setting.facts)) (root_is_known setting.moment setting.facts root) h).0)
    by_test false h = in_new setting level

picked : (P : Place → Type 0) (level : Result ℕ Refusal) (room : Result (Unit {0}) Refusal) (at : ℕ → Place) (place : Place) → ((l : ℕ) → P (at l))
    → ◌≡◌ {A = Result Place Refusal} (level >>= (λ l. room >>= (λ x. Ok (at l)))) (Ok place) → P place
picked P (Ok l) (Ok x) at place all h = let e : ◌≡◌ {A = Place} (at l) place = cc in subst P e (all l)
picked P (Ok l) (Err refusal) at place all h = absurd cc
picked P (Err refusal) room at place all h = absurd cc

pub place_checked : (setting : Setting) (new : NewTab) (place : Place) → check_new_tab setting new ≡ Ok place → IsNext setting place
unfolding check_new_tab
place_checked setting new place h =
    picked (IsNext setting) (check_level setting.realm new) (check_room setting (root_given setting new.root)) (λ (l : ℕ). place_at setting l (root_given setting new.root)) place
    (λ (l : ℕ). place_is_next setting l new.root) h

pub checked_is_next : (setting : Setting) (new : NewTab) (place : Place) → ◌≡◌ {A = Result Place Refusal} (Ok place) (check_new_tab setting new) → IsNext setting place
checked_is_next setting new place h = place_checked setting new place (sym h)
