-- A list that is gone through from its end.
use Rattle.std.proofs.Common.{◌≡◌, ℕ, ◌+◌, ◌-◌, ◌<◌, true, false, List, take, Option, Some, None, option_map, slice_get, refl, ap, sym, ◌∙◌, arith}
use Rattle.std.specs.Prelude.{is_some}
use Rattle.std.specs.Option.{option_or}
use Rattle.std.proofs.lemmas.Option.{same_Some}
use Rattle.facts.specs.Places.{last_of}
use Rattle.facts.proofs.PlacesLemmas.{last_of-more}

module _ {F A : Type 0} (pick : F → Option A) (fs : List F) where
  stepped : (i : ℕ) (o : Option F) (found : Option A) → slice_get fs i ≡ o → option_map pick o ≡ Some found → last_of pick (take (i + 1) fs) ≡ option_or found (last_of pick (take i fs))
  stepped i None found at h = absurd cc
  stepped i (Some f) found at h = last_of-more pick fs i f at ∙ ap (λ (o : Option A). option_or o (last_of pick (take i fs))) (same_Some (pick f) found h)

  one_back : (end : ℕ) (found : Option A) → 0 < end → option_map pick (slice_get fs (end - 1)) ≡ Some found → last_of pick fs ≡ last_of pick (take end fs) → last_of pick fs ≡ option_or found (last_of pick (take (end - 1) fs))
  one_back end found some at later =
      let e : end ≡ end - 1 + 1 = omega arith in
      later ∙ ap (λ (n : ℕ). last_of pick (take n fs)) e ∙ stepped (end - 1) (slice_get fs (end - 1)) found refl at

  pub found_back : (end : ℕ) (found : Option A) → 0 < end → option_map pick (slice_get fs (end - 1)) ≡ Some found → last_of pick fs ≡ last_of pick (take end fs) → is_some found ≡ true → found ≡ last_of pick fs
  found_back end (Some x) some at later there = sym (one_back end (Some x) some at later)
  found_back end None some at later there = absurd cc

  pub missed_back : (end : ℕ) (found : Option A) → 0 < end → option_map pick (slice_get fs (end - 1)) ≡ Some found → last_of pick fs ≡ last_of pick (take end fs) → is_some found ≡ false
      → last_of pick fs ≡ last_of pick (take (end - 1) fs)
  missed_back end None some at later there = one_back end None some at later
  missed_back end (Some x) some at later there = absurd cc
