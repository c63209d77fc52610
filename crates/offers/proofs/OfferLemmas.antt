-- Offers, grown by a code, and kept.
use Rattle.std.proofs.Common.{◌≡◌, ℕ, ◌+◌, ◌≤◌, true, List, [], ◌∷◌, ◌++◌, length, take, map, refl, ap, ◌∙◌, arith}
use Rattle.std.specs.Int.{w64, to_be_bytes}
use Rattle.std.specs.List.{flat_map, list_all}
use Rattle.std.proofs.lemmas.Bool.{le-leb}
use Rattle.std.proofs.lemmas.List.{length-map, take_all}
use Rattle.std.proofs.lemmas.List.FromFn.{map-range_with_len_more, length-map-range_with_len}
use Rattle.login_base.specs.declared.draws.Draws.{Draws}
use Rattle.sha2.specs.Sha256.{sha256}
use Rattle.sha2.proofs.Facts256.{length-sha256}
use Rattle.realm_data.specs.Secrets.{is_digest, are_recovery_digests}
use Rattle.offers.specs.Offers.{offer_of, offered_code, offered_codes}

-- all of the draws were taken in
pub offer_made : (draws : Draws) (taken : ℕ) (digest : List ℕ) → length draws.0 ≤ taken
    → digest ≡ sha256 (flat_map (to_be_bytes w64) (take taken draws.0)) → digest ≡ offer_of draws
unfolding offer_of
offer_made draws taken digest all made =
    made ∙ ap (λ ds. sha256 (flat_map (to_be_bytes w64) ds)) (take_all taken draws.0 all)

-- one code more
pub codes_more : (offer : List ℕ) (count : ℕ) (codes : List (List ℕ)) (code : List ℕ) (more : List (List ℕ))
    → codes ≡ offered_codes offer count → code ≡ offered_code offer (count + 1) → more ≡ codes ++ code ∷ []
    → more ≡ offered_codes offer (count + 1)
unfolding offered_codes
codes_more offer count codes code more before last pushed =
    let grown = map-range_with_len_more (offered_code offer) 1 count (count + 1) (omega arith) in
    cc

-- no code yet
pub codes_none : (offer : List ℕ) → [] ≡ offered_codes offer 0
unfolding offered_codes
codes_none offer = refl

are_digests : (codes : List (List ℕ)) → list_all is_digest (map sha256 codes) ≡ true
are_digests [] = refl
are_digests (code ∷ codes) = rw (length-sha256 code) (are_digests codes)

are_in_range : (digests : List (List ℕ)) (count : ℕ) → length digests ≡ count → 1 ≤ count → count ≤ 16
    → list_all is_digest digests ≡ true → are_recovery_digests digests ≡ true
are_in_range digests count long least most all = rw (long, le-leb 1 count least, le-leb count 16 most, all) refl

length-offered_codes : (offer : List ℕ) (count : ℕ) → length (offered_codes offer count) ≡ count
unfolding offered_codes
length-offered_codes offer count = length-map-range_with_len (offered_code offer) 1 count

-- a user can be kept with the digests of 1 to 16 codes
pub digests_kept : (offer : List ℕ) (count : ℕ) (codes digests : List (List ℕ)) → codes ≡ offered_codes offer count
    → digests ≡ map sha256 codes → 1 ≤ count → count ≤ 16 → are_recovery_digests digests ≡ true
digests_kept offer count codes digests made each least most =
    let long : length digests ≡ count =
    ap length each ∙ length-map codes sha256 ∙ ap length made ∙ length-offered_codes offer count in
    are_in_range digests count long least most (ap (list_all is_digest) each ∙ are_digests codes)
