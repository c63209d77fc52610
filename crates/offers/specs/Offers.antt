-- What an ask offers to a user who has to set up one-time codes or recovery codes.
use Rattle.std.specs.Prelude.{ℕ, List, [], ◌∷◌, ◌++◌, take, map}
use Rattle.std.specs.Int.{w64, to_be_bytes}
use Rattle.std.specs.List.{flat_map, range_with_len}
use Rattle.sha2.specs.Sha256.{sha256}
use Rattle.one_time.specs.Base32.{base32_letters}
use Rattle.login_base.specs.declared.draws.Draws.{Draws}
use Rattle.realm_data.specs.declared.action.Action.{Action}
use Rattle.realm_data.specs.declared.action.Action.TheVariants.{Terms, VerifyEmail, UpdatePassword, ConfigureOtp, RecoveryCodes}

-- the offer of an ask: SHA-256 of its ten draws, each as eight bytes, the greatest first
unfoldable pub offer_of : Draws → List ℕ
offer_of draws = sha256 (flat_map (to_be_bytes w64) draws.0)

-- the offered secret of one-time codes: the first 20 bytes
abbrev pub offered_key : List ℕ → List ℕ
offered_key offer = take 20 offer

-- the offered recovery code of a number: the first 12 letters of the base32 text of SHA-256 of the
-- offer and the number
unfoldable pub offered_code : List ℕ → ℕ → List ℕ
offered_code offer number = take 12 (base32_letters (sha256 (offer ++ number ∷ [])))

-- the offered recovery codes, so many from number 1 on
unfoldable pub offered_codes : List ℕ → ℕ → List (List ℕ)
offered_codes offer count = map (offered_code offer) (range_with_len 1 count)

-- SHA-256 of each of the offered recovery codes
unfoldable pub offered_digests : List ℕ → ℕ → List (List ℕ)
offered_digests offer count = map sha256 (offered_codes offer count)

-- the texts that the page of an action shows
abbrev pub shown_for : Action → List ℕ → ℕ → List (List ℕ)
shown_for Terms offer count = []
shown_for VerifyEmail offer count = []
shown_for UpdatePassword offer count = []
shown_for ConfigureOtp offer count = base32_letters (offered_key offer) ∷ []
shown_for RecoveryCodes offer count = offered_codes offer count
