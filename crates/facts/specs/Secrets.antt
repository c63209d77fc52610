-- The secrets of the accounts.
use Rattle.std.specs.Prelude.{ℕ, Bool, false, ◌&&◌, ◌==◌, List, Option, Some, None, option_and_then, if◌then◌else◌}
use Rattle.login_base.specs.declared.id.UserId.{UserId}
use Rattle.facts.specs.declared.fact.Fact.{Fact}
use Rattle.facts.specs.declared.fact.Fact.TheVariants as events
use Rattle.facts.specs.declared.user_password.UserPassword.{UserPassword}
use Rattle.facts.specs.declared.secret.Secret.{Secret}
use Rattle.facts.specs.declared.secret.Secret.TheVariants as secrets
use Rattle.conditions.specs.declared.secret_kind.SecretKind.{SecretKind}
use Rattle.conditions.specs.declared.secret_kind.SecretKind.TheVariants as kinds
use Rattle.conditions.specs.Secrets.{same_secret}
use Rattle.facts.specs.Places.{last_of}

-- ---- passwords

-- the password of a secret, none where it is gone
abbrev pub kept_password : ℕ → Secret → Option UserPassword
kept_password serial (secrets.Password hash) = Some (record { serial = serial; hash = hash })
kept_password serial secret = None

-- what a change of this user's password leaves
abbrev pub password_set : UserId → Fact → Option (Option UserPassword)
password_set user (events.SecretSet of kinds.Password serial secret by) = if of.0 == user.0 then Some (kept_password serial secret) else None
password_set user event = None

-- the password that the user has
unfoldable pub password_of : UserId → List Fact → Option UserPassword
password_of user facts = option_and_then (λ kept. kept) (last_of (password_set user) facts)

-- ---- secrets of one-time codes, and recovery codes

pub record KeptOtp : Type 0 where
  pub serial : ℕ
  pub key : List ℕ

pub record KeptRecovery : Type 0 where
  pub serial : ℕ
  pub digests : List (List ℕ)

abbrev pub changes : UserId → SecretKind → Fact → Bool
changes user kind (events.SecretSet of changed serial secret by) = of.0 == user.0 && same_secret kind changed
changes user kind event = false

-- the fact, where it changes the user's secret of this kind
abbrev pub change_of : UserId → SecretKind → Fact → Option Fact
change_of user kind event = if changes user kind event then Some event else None

-- what a change leaves: nothing, where it takes the secret away
abbrev pub otp_left : Fact → Option KeptOtp
otp_left (events.SecretSet user kind serial (secrets.Otp key) by) = Some (record { serial = serial; key = key })
otp_left event = None

abbrev pub recovery_left : Fact → Option KeptRecovery
recovery_left (events.SecretSet user kind serial (secrets.Recovery digests) by) = Some (record { serial = serial; digests = digests })
recovery_left event = None

-- the secret of one-time codes that the user has
unfoldable pub otp_of : UserId → List Fact → Option KeptOtp
otp_of user facts = option_and_then otp_left (last_of (change_of user kinds.Otp) facts)

-- the recovery codes that the user has
unfoldable pub recovery_of : UserId → List Fact → Option KeptRecovery
recovery_of user facts = option_and_then recovery_left (last_of (change_of user kinds.Recovery) facts)
