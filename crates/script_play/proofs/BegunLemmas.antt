-- The ask under a handle stands at its place.
use Rattle.std.proofs.Common.{◌≡◌, ℕ, ◌<◌, Bool, true, false, cond, List, Some, None, length, nat_lt, slice_get, slice_index_or, refl, sym, ap, ◌∙◌, arith}
use Rattle.std.specs.Prelude.{Option}
use Rattle.std.specs.List.{position, position_or_len}
use Rattle.std.proofs.lemmas.Bool.{ltb-true, ltb-false}
use Rattle.std.proofs.lemmas.List.Folds.{find_at}
use Rattle.std.proofs.lemmas.Option.{slice_get_past, slice_get_read}
use Rattle.script_play.specs.Begun.{is_under, begun_under}
use Rattle.script_play.specs.declared.begun.BegunAsk.{BegunAsk}

place_is : (within : Bool) (n place : ℕ) → ◌≡◌ {A = Option ℕ} (Some place) (cond within (Some n) None) → (within ≡ true) × (place ≡ n)
place_is true n place h = (refl, cc)
place_is false n place h = absurd cc

no_place : (within : Bool) (n : ℕ) → ◌≡◌ {A = Option ℕ} None (cond within (Some n) None) → within ≡ false
no_place true n h = absurd cc
no_place false n h = refl

pub taken : (handle : ℕ) (begun : List BegunAsk) (place : ℕ) (own : BegunAsk) → Some place ≡ position (is_under handle) begun
    → own ≡ slice_index_or begun place own → Some own ≡ begun_under handle begun
taken handle begun place own at is =
    let n = position_or_len (is_under handle) begun in
    let found = place_is (nat_lt n (length begun)) n place at in
    let inside = ltb-true n (length begun) found.0 in
    let here : place < length begun = omega (arith, found.1, inside) in
    sym (slice_get_read begun (length begun) place own refl here is) ∙ ap (slice_get begun) found.1 ∙ sym (find_at (is_under handle) begun)

pub none_taken : (handle : ℕ) (begun : List BegunAsk) → None ≡ position (is_under handle) begun → None ≡ begun_under handle begun
none_taken handle begun at =
    let n = position_or_len (is_under handle) begun in
    let past = ltb-false n (length begun) (no_place (nat_lt n (length begun)) n at) in
    sym (slice_get_past begun n past) ∙ sym (find_at (is_under handle) begun)
