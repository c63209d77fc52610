-- A new account.
use Rattle.std.specs.Prelude.{ℕ, ◌+◌, Bool, true, false, List, [], ◌∷◌, ◌++◌, map, Option, Some, None}
use Rattle.conditions.specs.declared.secret_kind.SecretKind.TheVariants as kinds
use Rattle.login_base.specs.declared.id.UserId.{UserId}
use Rattle.realm_data.specs.PasswordHash.{HashedPassword}
use Rattle.realm_data.specs.declared.action.Action.{Action}
use Rattle.facts.specs.declared.fact.Fact.{Fact}
use Rattle.facts.specs.declared.fact.Fact.TheVariants as events
use Rattle.facts.specs.declared.secret.Secret.TheVariants as secrets
use Rattle.hall_answers.specs.Passwords.{password_facts}

-- the secrets that an account is given
pub record GivenSecrets : Type 0 where
  pub password : Option HashedPassword
  pub otp : Option (List ℕ)
  pub recovery : Option (List (List ℕ))

abbrev pub disabled_facts : UserId → Bool → List Fact
disabled_facts user true = []
disabled_facts user false = events.Disabled user ∷ []

-- a secret is set by no tab, with this serial
abbrev pub otp_facts : UserId → ℕ → Option (List ℕ) → List Fact
otp_facts user serial None = []
otp_facts user serial (Some key) = events.SecretSet user kinds.Otp serial (secrets.Otp key) None ∷ []

abbrev pub recovery_facts : UserId → ℕ → Option (List (List ℕ)) → List Fact
recovery_facts user serial None = []
recovery_facts user serial (Some digests) = events.SecretSet user kinds.Recovery serial (secrets.Recovery digests) None ∷ []

abbrev pub count : {A : Type 0} → Option A → ℕ
count None = 0
count (Some x) = 1

-- a password has the serial after the last one, then a secret of one-time codes the next, then recovery codes
abbrev pub secret_facts : UserId → ℕ → GivenSecrets → List Fact
secret_facts user last given =
    password_facts user (last + 1) given.password None
    ++ otp_facts user (last + count given.password + 1) given.otp
    ++ recovery_facts user (last + count given.password + count given.otp + 1) given.recovery

-- each of these actions is required of the user, in their order
abbrev pub action_facts : UserId → List Action → List Fact
action_facts user actions = map (events.ActionSet user) actions

-- the account is put, closed where it isn't enabled, given its secrets, whose serials come after the user's, and its
-- actions
abbrev pub account_facts : UserId → List ℕ → List (List ℕ) → Bool → GivenSecrets → List Action → List Fact
account_facts user name roles enabled given actions =
    events.UserPut user name roles ∷ disabled_facts user enabled ++ secret_facts user user.0 given ++ action_facts user actions

-- how many serials it takes
abbrev pub serials_of : GivenSecrets → ℕ
serials_of given = 1 + count given.password + count given.otp + count given.recovery
