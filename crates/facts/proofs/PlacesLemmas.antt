-- One more fact at the end.
use Rattle.std.proofs.Common.{◌≡◌, ℕ, ◌+◌, ◌<◌, get_or, length, List, [], ◌∷◌, ◌++◌, take, Option, Some, None, option_map, slice_get, refl, ap, sym, ◌∙◌}
use Rattle.std.specs.Prelude.{fold}
use Rattle.std.proofs.lemmas.Grind.{fold-append}
use Rattle.std.proofs.lemmas.List.{take_more}
use Rattle.std.proofs.lemmas.Option.{get_or_from_slice_get, slice_get_within, slice_get-get_or, same_Some}
use Rattle.std.specs.Option.{option_or}
use Rattle.facts.specs.Places.{last_of}

pub option_or_assoc : {A : Type 0} (x y z : Option A) → option_or (option_or x y) z ≡ option_or x (option_or y z)
option_or_assoc (Some x) y z = refl
option_or_assoc None y z = refl

pub option_or_none : {A : Type 0} (x : Option A) → option_or x None ≡ x
option_or_none (Some x) = refl
option_or_none None = refl

pub last_of_append : {F A : Type 0} (pick : F → Option A) (fs gs : List F) → last_of pick (fs ++ gs) ≡ option_or (last_of pick gs) (last_of pick fs)
last_of_append pick [] gs = sym (option_or_none (last_of pick gs))
last_of_append pick (f ∷ fs) gs = ap (λ o. option_or o (pick f)) (last_of_append pick fs gs) ∙ option_or_assoc (last_of pick gs) (last_of pick fs) (pick f)

pub last_of-more : {F A : Type 0} (pick : F → Option A) (fs : List F) (i : ℕ) (f : F) → slice_get fs i ≡ Some f → last_of pick (take (i + 1) fs) ≡ option_or (pick f) (last_of pick (take i fs))
last_of-more pick fs i f h =
    let e = take_more fs i f (slice_get_within fs i f h) ∙ ap (λ x. take i fs ++ x ∷ []) (get_or_from_slice_get fs i f f h) in
    ap (last_of pick) e ∙ last_of_append pick (take i fs) (f ∷ [])

pub fold-more : {S F : Type 0} (step : S → F → S) (start : S) (fs : List F) (i : ℕ) (f : F) → slice_get fs i ≡ Some f → fold step start (take (i + 1) fs) ≡ step (fold step start (take i fs)) f
fold-more step start fs i f h =
    let e = take_more fs i f (slice_get_within fs i f h) ∙ ap (λ x. take i fs ++ x ∷ []) (get_or_from_slice_get fs i f f h) in
    ap (fold step start) e ∙ fold-append step start (take i fs) (f ∷ [])

pub fold_append : {S F : Type 0} (step : S → F → S) (start : S) (fs gs : List F) → fold step start (fs ++ gs) ≡ fold step (fold step start fs) gs
fold_append step start fs gs = fold-append step start fs gs

-- the element at a place within
pub got : {X : Type 0} (xs : List X) (i : ℕ) (x : X) → i < length xs → x ≡ get_or xs i x → slice_get xs i ≡ Some x
got xs i x within is = slice_get-get_or xs i x within ∙ ap Some (sym is)

stepped : {S F : Type 0} (step : S → F → S) (start : S) (fs : List F) (i : ℕ) (o : Option F) (next : S) → slice_get fs i ≡ o → option_map (step (fold step start (take i fs))) o ≡ Some next → fold step start (take (i + 1) fs) ≡ next
stepped step start fs i None next h k = absurd cc
stepped step start fs i (Some f) next h k = fold-more step start fs i f h ∙ same_Some (step (fold step start (take i fs)) f) next k

pub fold-more-by : {S F : Type 0} (step : S → F → S) (start : S) (fs : List F) (i : ℕ) (next : S) → option_map (step (fold step start (take i fs))) (slice_get fs i) ≡ Some next → fold step start (take (i + 1) fs) ≡ next
fold-more-by step start fs i next k = stepped step start fs i (slice_get fs i) next refl k
