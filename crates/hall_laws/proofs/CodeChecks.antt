-- Whose code a check comes to.
use Rattle.std.proofs.Common.{◌≡◌, ℕ, Bool, true, false, List, Some, None, refl, ap, subst, ◌∙◌}
use Rattle.std.specs.Prelude.{Option, if◌then◌else◌}
use Rattle.login_base.specs.declared.id.UserId.{UserId}
use Rattle.one_time.specs.declared.verdict.Verdict.{Verdict}
use Rattle.one_time.specs.declared.verdict.Verdict.TheVariants as verdicts
use Rattle.asks.specs.declared.reply.Need.{Need}
use Rattle.facts.specs.Secrets.{KeptOtp, KeptRecovery, otp_of, recovery_of}
use Rattle.hall_answers.specs.Setting.{Setting}
use Rattle.tab_asks.specs.declared.check.Check.{Check}
use Rattle.tab_asks.specs.declared.check.Check.TheVariants as checks
use Rattle.tab_asks.specs.declared.check.Credential.{Credential}
use Rattle.facts.specs.declared.tabs.Page.{Page}
use Rattle.tab_asks.specs.Deeds.{deed_check, offered_otp, uncounted, setup_check}
use Rattle.tab_asks.specs.Codes.{step_check, otp_verdict, otp_check, number_check, kept_verdict, recovery_check, asks_recovery, code_check}

-- the user whose failure a check counts, if anybody's
abbrev pub failing : Check → Option UserId
failing (checks.Fits user credential) = None
failing (checks.Wrong user) = user
failing (checks.WrongCode user) = user
failing (checks.SpentCode step) = None

-- a code is checked for one user alone
abbrev IsOf : UserId → Check → Type 0
IsOf own (checks.Fits user credential) = own ≡ user
IsOf own (checks.Wrong user) = ⊥
IsOf own (checks.WrongCode user) = Some own ≡ user
IsOf own (checks.SpentCode step) = Unit {0}

step_of : (own : UserId) (serial : ℕ) (verdict : Verdict) → IsOf own (step_check own serial verdict)
step_of own serial (verdicts.Fits step) = refl
step_of own serial (verdicts.Spent step) = tt
step_of own serial verdicts.Wrong = refl

number_of : (own : UserId) (serial : ℕ) (verdict : Verdict) → IsOf own (number_check own serial verdict)
number_of own serial (verdicts.Fits number) = refl
number_of own serial (verdicts.Spent number) = tt
number_of own serial verdicts.Wrong = refl

otp_is_of : (setting : Setting) (own : UserId) (kept : Option KeptOtp) (value : List ℕ) → IsOf own (otp_check setting own kept value)
otp_is_of setting own None value = refl
otp_is_of setting own (Some kept) value = step_of own kept.serial (otp_verdict setting kept value)

recovery_is_of : (setting : Setting) (own : UserId) (kept : Option KeptRecovery) (value : List ℕ) → IsOf own (recovery_check setting own kept value)
recovery_is_of setting own None value = refl
recovery_is_of setting own (Some kept) value = number_of own kept.serial (kept_verdict setting kept value)

either_of : (own : UserId) (b : Bool) (one other : Check) → IsOf own one → IsOf own other → IsOf own (if b then one else other)
either_of own true one other h k = h
either_of own false one other h k = k

code_of : (setting : Setting) (asked : List Need) (own : UserId) (execution value : List ℕ) → IsOf own (code_check setting asked (Some own) execution value)
unfolding code_check
code_of setting asked own execution value =
    either_of own (asks_recovery asked execution) _ _
    (recovery_is_of setting own (recovery_of own setting.facts) value) (otp_is_of setting own (otp_of own setting.facts) value)

-- a code that fits is the one of the user whose login it is
pub code_fits : (setting : Setting) (asked : List Need) (who : Option UserId) (execution value : List ℕ) (user : UserId) (credential : Credential)
    → code_check setting asked who execution value ≡ checks.Fits user credential → who ≡ Some user
unfolding code_check
code_fits setting asked None execution value user credential h = absurd cc
code_fits setting asked (Some own) execution value user credential h = ap Some (subst (IsOf own) h (code_of setting asked own execution value))

failing_is : (own user : UserId) (check : Check) → IsOf own check → failing check ≡ Some user → Some own ≡ Some user
failing_is own user (checks.Fits other credential) is h = absurd cc
failing_is own user (checks.Wrong other) is h = absurd is
failing_is own user (checks.WrongCode other) is h = cc
failing_is own user (checks.SpentCode step) is h = absurd cc

-- and so is one that counts as a failure
pub code_fails : (setting : Setting) (asked : List Need) (who : Option UserId) (execution value : List ℕ) (user : UserId)
    → failing (code_check setting asked who execution value) ≡ Some user → who ≡ Some user
unfolding code_check
code_fails setting asked None execution value user h = absurd cc
code_fails setting asked (Some own) execution value user h = failing_is own user _ (code_of setting asked own execution value) h

-- ---- codes of an offered secret

-- a wrong one counts as nobody's failure
uncounted_fails : (own : UserId) (user : UserId) (check : Check) → IsOf own check → failing (uncounted check) ≡ Some user → ⊥
uncounted_fails own user (checks.Fits other credential) is h = absurd cc
uncounted_fails own user (checks.Wrong other) is h = absurd is
uncounted_fails own user (checks.WrongCode other) is h = absurd cc
uncounted_fails own user (checks.SpentCode step) is h = absurd cc

pub setup_fails : (setting : Setting) (page : Option Page) (who : Option UserId) (value : List ℕ) (user : UserId)
    → failing (setup_check setting page who value) ≡ Some user → ⊥
setup_fails setting page None value user h = absurd cc
setup_fails setting page (Some own) value user h =
    uncounted_fails own user (otp_check setting own (Some (offered_otp setting page)) value) (otp_is_of setting own (Some (offered_otp setting page)) value) h

uncounted_fits : (own : UserId) (user : UserId) (credential : Credential) (check : Check) → IsOf own check → uncounted check ≡ checks.Fits user credential → Some own ≡ Some user
uncounted_fits own user credential (checks.Fits other used) is h = let e : other ≡ user = cc in ap Some (is ∙ e)
uncounted_fits own user credential (checks.Wrong other) is h = absurd is
uncounted_fits own user credential (checks.WrongCode other) is h = absurd cc
uncounted_fits own user credential (checks.SpentCode step) is h = absurd cc

-- one that fits is that of the user whose login it is
pub setup_fits : (setting : Setting) (page : Option Page) (who : Option UserId) (value : List ℕ) (user : UserId) (credential : Credential)
    → setup_check setting page who value ≡ checks.Fits user credential → who ≡ Some user
setup_fits setting page None value user credential h = absurd cc
setup_fits setting page (Some own) value user credential h =
    uncounted_fits own user credential (otp_check setting own (Some (offered_otp setting page)) value) (otp_is_of setting own (Some (offered_otp setting page)) value) h

-- and so is it with an action that takes no code
pub deed_fits : (who : Option UserId) (user : UserId) (credential : Credential) → deed_check who ≡ checks.Fits user credential → who ≡ Some user
deed_fits (Some own) user credential h = cc
deed_fits None user credential h = absurd cc
