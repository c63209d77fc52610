-- What a one-time value fits.
use Rattle.std.specs.Prelude.{ℕ, ◌+◌, ◌-◌, ◌/◌, ◌^◌, Bool, true, false, not, ◌&&◌, nat_lt, nat_eq, List, length, slice_get, Option, Some, None, if◌then◌else◌}
use Rattle.std.specs.List.{find, list_any, range_with_len}
use Rattle.std.specs.Option.{option_map_or, option_to_list}
use Rattle.std.specs.Str.{bytes_eq}
use Rattle.sha2.specs.Sha256.{sha256}
use Rattle.one_time.specs.Hotp.{is_code_of}
use Rattle.one_time.specs.declared.verdict.Verdict.{Verdict}
use Rattle.one_time.specs.declared.verdict.Verdict.TheVariants.{Fits, Spent, Wrong}

-- the least that fits and is unspent; else the least that fits, as spent; else none
abbrev pub verdict_from : Option ℕ → Option ℕ → Verdict
verdict_from (Some at) spent = Fits at
verdict_from None (Some at) = Spent at
verdict_from None None = Wrong

-- ---- codes of the time

-- the step of a moment in milliseconds
abbrev pub step_of : ℕ → ℕ
step_of now = now / 30000

-- the steps at most `window` before or after a step, from the least on; none is below 0
abbrev pub steps_near : ℕ → ℕ → List ℕ
steps_near step window = range_with_len (step - window) (step + window + 1 - (step - window))

abbrev pub contains : List ℕ → ℕ → Bool
contains steps step = list_any (λ other. nat_eq other step) steps

-- the verdict over these steps, where some are spent
abbrev pub verdict_over : (ℕ → Bool) → List ℕ → List ℕ → Verdict
verdict_over fits spent steps = verdict_from (find (λ step. fits step && not (contains spent step)) steps) (find fits steps)

-- the verdict once an earlier step is looked at too
abbrev pub with_earlier : ℕ → Bool → Bool → Verdict → Verdict
with_earlier step false spent later = later
with_earlier step true false later = Fits step
with_earlier step true true (Fits at) = Fits at
with_earlier step true true (Spent at) = Spent step
with_earlier step true true Wrong = Spent step

-- the verdict on a text at a moment, where these steps are spent
unfoldable pub totp_verdict : List ℕ → ℕ → ℕ → ℕ → List ℕ → List ℕ → Verdict
totp_verdict key now window digits spent text = verdict_over (is_code_of key digits text) spent (steps_near (step_of now) window)

-- ---- recovery codes, whose digests are numbered from 1

-- the number after the spent ones, where the list has it
abbrev pub next_number : List (List ℕ) → ℕ → Option ℕ
next_number digests spent = if nat_lt spent (length digests) && nat_lt (spent + 1) (2 ^ 32) then Some (spent + 1) else None

abbrev pub next_numbers : List (List ℕ) → ℕ → List ℕ
next_numbers digests spent = option_to_list (next_number digests spent)

abbrev pub spent_numbers : ℕ → List ℕ
spent_numbers spent = range_with_len 1 spent

abbrev pub has_digest : List (List ℕ) → List ℕ → ℕ → Bool
has_digest digests digest number =
    option_map_or (λ own. bytes_eq own digest) (slice_get digests (number - 1)) false

-- the verdict on a typed code: the next number is asked first, then those that are spent
unfoldable pub recovery_verdict : List (List ℕ) → ℕ → List ℕ → Verdict
recovery_verdict digests spent value =
    let fits : ℕ → Bool = has_digest digests (sha256 value) in
    verdict_from (find fits (next_numbers digests spent)) (find fits (spent_numbers spent))
