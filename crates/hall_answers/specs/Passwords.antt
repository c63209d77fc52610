-- The password that an ask sets.
use Rattle.std.specs.Prelude.{◌≡◌, ℕ, true, List, [], ◌∷◌, Option, Some, None}
use Rattle.conditions.specs.declared.secret_kind.SecretKind.TheVariants as kinds
use Rattle.login_base.specs.declared.id.TabKey.{TabKey}
use Rattle.login_base.specs.declared.id.UserId.{UserId}
use Rattle.realm_data.specs.PasswordHash.{HashedPassword, is_iterations}
use Rattle.asks.specs.declared.finding.Finding.{Finding}
use Rattle.asks.specs.declared.finding.Finding.TheVariants as findings
use Rattle.facts.specs.declared.fact.Fact.{Fact}
use Rattle.facts.specs.declared.fact.Fact.TheVariants as events
use Rattle.facts.specs.declared.secret.Secret.TheVariants as secrets

-- the password that was derived, as it is kept
abbrev pub derived : Finding → Option HashedPassword
derived (findings.Derived salt count digest) = Some (record { salt = salt; iterations = count; digest = digest })
derived (findings.Checked had fits) = None
derived findings.None = None

-- a derived password was hashed as often as it may be
abbrev pub IsKeepable : Finding → Type 0
IsKeepable (findings.Derived salt count digest) = is_iterations count ≡ true
IsKeepable (findings.Checked had fits) = Unit {0}
IsKeepable findings.None = Unit {0}

-- the password is the user's from now on, with this serial, set by a tab or by none
abbrev pub password_facts : UserId → ℕ → Option HashedPassword → Option TabKey → List Fact
password_facts user serial None by = []
password_facts user serial (Some hash) by = events.SecretSet user kinds.Password serial (secrets.Password hash) by ∷ []
