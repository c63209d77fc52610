-- What a one-time code or a recovery code comes to.
use Rattle.std.specs.Prelude.{ℕ, ◌^◌, ◌<◌, Bool, List, Option, Some, None, if◌then◌else◌}
use Rattle.std.specs.List.{list_any}
use Rattle.login_base.specs.declared.id.UserId.{UserId}
use Rattle.flow_tree.specs.declared.exec.Kind.TheVariants as kinds
use Rattle.one_time.specs.declared.verdict.Verdict.{Verdict}
use Rattle.one_time.specs.declared.verdict.Verdict.TheVariants as verdicts
use Rattle.one_time.specs.Verdicts.{totp_verdict, recovery_verdict}
use Rattle.asks.specs.declared.reply.Need.{Need}
use Rattle.facts.specs.Secrets.{KeptOtp, KeptRecovery, otp_of, recovery_of}
use Rattle.facts.specs.Spent.{spent_steps, codes_spent}
use Rattle.hall_answers.specs.Setting.{Setting}
use Rattle.tab_asks.specs.declared.check.Check.{Check}
use Rattle.tab_asks.specs.declared.check.Check.TheVariants as checks
use Rattle.tab_asks.specs.declared.check.Spent.TheVariants as spends
use Rattle.tab_asks.specs.Forms.{is_need}

-- ---- one-time codes

-- the least step that it fits and that isn't spent is used up
abbrev pub step_check : UserId → ℕ → Verdict → Check
step_check user serial (verdicts.Fits step) = checks.Fits user (record { serial = serial; spent = spends.Step step })
step_check user serial (verdicts.Spent step) = checks.SpentCode step
step_check user serial verdicts.Wrong = checks.WrongCode (Some user)

-- by the digits and the window of the realm in force, which needn't be the tab's
abbrev pub otp_verdict : Setting → KeptOtp → List ℕ → Verdict
otp_verdict setting kept value =
    totp_verdict kept.key setting.moment setting.realm.otp.window setting.realm.otp.digits (spent_steps kept.serial setting.facts) value

abbrev pub otp_check : Setting → UserId → Option KeptOtp → List ℕ → Check
otp_check setting user None value = checks.WrongCode (Some user)
otp_check setting user (Some kept) value = step_check user kept.serial (otp_verdict setting kept value)

-- ---- recovery codes

-- the next number is used up
abbrev pub number_check : UserId → ℕ → Verdict → Check
number_check user serial (verdicts.Fits number) = checks.Fits user (record { serial = serial; spent = spends.Number number })
number_check user serial (verdicts.Spent number) = checks.SpentCode number
number_check user serial verdicts.Wrong = checks.WrongCode (Some user)

abbrev pub kept_verdict : Setting → KeptRecovery → List ℕ → Verdict
kept_verdict setting kept value = recovery_verdict kept.digests (codes_spent kept.serial setting.facts) value

abbrev pub recovery_check : Setting → UserId → Option KeptRecovery → List ℕ → Check
recovery_check setting user None value = checks.WrongCode (Some user)
recovery_check setting user (Some kept) value = number_check user kept.serial (kept_verdict setting kept value)

-- a number of a recovery code
abbrev pub HasNumber : Verdict → Type 0
HasNumber (verdicts.Fits number) = number < 2 ^ 32
HasNumber (verdicts.Spent number) = Unit {0}
HasNumber verdicts.Wrong = Unit {0}

-- ---- either

-- the execution asks a recovery code
abbrev pub asks_recovery : List Need → List ℕ → Bool
asks_recovery asked execution = list_any (λ (need : Need). is_need need execution kinds.Recovery) asked

-- the code is one of the user whose login it is, and of the kind that the execution asks
unfoldable pub code_check : Setting → List Need → Option UserId → List ℕ → List ℕ → Check
code_check setting asked None execution value = checks.WrongCode None
code_check setting asked (Some user) execution value =
    if asks_recovery asked execution then recovery_check setting user (recovery_of user setting.facts) value
    else otp_check setting user (otp_of user setting.facts) value
