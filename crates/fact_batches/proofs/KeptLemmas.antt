-- What more facts leave as it is, where none of them has to do with it.
use Rattle.std.proofs.Common.{◌≡◌, Bool, true, false, ◌||◌, List, [], ◌∷◌, ◌++◌, append-nil, refl, sym, ap, ◌∙◌}
use Rattle.std.specs.Prelude.{Option, Some, None, option_map, option_and_then, fold, filter}
use Rattle.std.specs.List.{list_any, flat_map}
use Rattle.std.specs.Option.{option_or}
use Rattle.std.proofs.lemmas.Bool.{false≢true}
use Rattle.std.proofs.lemmas.Grind.{flat_map-append}
use Rattle.std.proofs.lemmas.List.Folds.{list_any-append}
use Rattle.facts.specs.declared.fact.Fact.{Fact}
use Rattle.facts.specs.Places.{last_of}
use Rattle.facts.proofs.PlacesLemmas.{last_of_append, fold_append}

pub neither : (a b : Bool) → (a || b) ≡ false → (a ≡ false) × (b ≡ false)
neither true b h = absurd (false≢true (sym h))
neither false b h = (refl, h)

pub or_false : (b : Bool) → (b || false) ≡ b
or_false true = refl
or_false false = refl

module _ (test : Fact → Bool) where
  none_of : {A : Type 0} (pick : Fact → Option A) → ((f : Fact) → test f ≡ false → pick f ≡ None) → (added : List Fact) → list_any test added ≡ false → last_of pick added ≡ None
  none_of pick each [] h = refl
  none_of pick each (f ∷ added) h =
      let parts = neither (test f) (list_any test added) h in
      rw (none_of pick each added parts.1, each f parts.0) refl

  pub last_kept : {A : Type 0} (pick : Fact → Option A) → ((f : Fact) → test f ≡ false → pick f ≡ None) → (before added : List Fact) → list_any test added ≡ false
      → last_of pick (before ++ added) ≡ last_of pick before
  last_kept pick each before added h = last_of_append pick before added ∙ rw (none_of pick each added h) refl

  folded : {S : Type 0} (step : S → Fact → S) → ((s : S) (f : Fact) → test f ≡ false → step s f ≡ s) → (s : S) (added : List Fact) → list_any test added ≡ false → fold step s added ≡ s
  folded step each s [] h = refl
  folded step each s (f ∷ added) h =
      let parts = neither (test f) (list_any test added) h in
      rw (each s f parts.0) (folded step each s added parts.1)

  pub fold_kept : {S : Type 0} (step : S → Fact → S) → ((s : S) (f : Fact) → test f ≡ false → step s f ≡ s) → (s : S) (before added : List Fact) → list_any test added ≡ false
      → fold step s (before ++ added) ≡ fold step s before
  fold_kept step each s before added h = fold_append step s before added ∙ folded step each (fold step s before) added h

  nothing_of : {A : Type 0} (found : Fact → List A) → ((f : Fact) → test f ≡ false → found f ≡ []) → (added : List Fact) → list_any test added ≡ false → flat_map found added ≡ []
  nothing_of found each [] h = refl
  nothing_of found each (f ∷ added) h =
      let parts = neither (test f) (list_any test added) h in
      rw (each f parts.0) (nothing_of found each added parts.1)

  pub flat_kept : {A : Type 0} (found : Fact → List A) → ((f : Fact) → test f ≡ false → found f ≡ []) → (before added : List Fact) → list_any test added ≡ false
      → flat_map found (before ++ added) ≡ flat_map found before
  flat_kept found each before added h = flat_map-append found before added ∙ rw (nothing_of found each added h) (append-nil (flat_map found before))

  pub none_any : (p : Fact → Bool) → ((f : Fact) → test f ≡ false → p f ≡ false) → (added : List Fact) → list_any test added ≡ false → list_any p added ≡ false
  none_any p each [] h = refl
  none_any p each (f ∷ added) h =
      let parts = neither (test f) (list_any test added) h in
      rw (each f parts.0) (none_any p each added parts.1)

  pub any_kept : (p : Fact → Bool) → ((f : Fact) → test f ≡ false → p f ≡ false) → (before added : List Fact) → list_any test added ≡ false
      → list_any p (before ++ added) ≡ list_any p before
  any_kept p each before added h = list_any-append p before added ∙ rw (none_any p each added h) (or_false (list_any p before))

  -- a value that is picked comes from a fact that the test doesn't pass
  pub picked_from : {A : Type 0} (pick : Fact → Option A) (added : List Fact) (a : A) → list_any test added ≡ false → last_of pick added ≡ Some a
      → (f : Fact) × (pick f ≡ Some a) × (test f ≡ false)
  picked_from pick [] a h e = absurd cc
  picked_from pick (f ∷ added) a h e =
      let parts = neither (test f) (list_any test added) h in
      go (last_of pick added) refl e parts.0 (picked_from pick added a parts.1)
    where
      go : (o : Option _) → last_of pick added ≡ o → option_or o (pick f) ≡ Some a → test f ≡ false
          → (last_of pick added ≡ Some a → (g : Fact) × (pick g ≡ Some a) × (test g ≡ false)) → (g : Fact) × (pick g ≡ Some a) × (test g ≡ false)
      go None is e own later = (f, e, own)
      go (Some b) is e own later = later (is ∙ e)

pub filter_same : {A : Type 0} (p q : A → Bool) → ((x : A) → p x ≡ q x) → (xs : List A) → filter p xs ≡ filter q xs
filter_same p q each [] = refl
filter_same p q each (x ∷ xs) = rw (each x, filter_same p q each xs) refl

pub then_same : {A R : Type 0} (f g : A → Option R) → ((x : A) → f x ≡ g x) → (o : Option A) → option_and_then f o ≡ option_and_then g o
then_same f g each None = refl
then_same f g each (Some x) = each x

pub map_same : {A R : Type 0} (f g : A → R) (o p : Option A) → o ≡ p → ((x : A) → f x ≡ g x) → option_map f o ≡ option_map g p
map_same f g o None e each = rw e refl
map_same f g o (Some x) e each = rw e (ap Some (each x))
