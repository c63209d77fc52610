-- The secrets that authenticators rest on.
use Rattle.std.specs.Prelude.{Bool, true, false, Option, Some, None}
use Rattle.flow_tree.specs.declared.exec.Kind.{Kind}
use Rattle.flow_tree.specs.declared.exec.Kind.TheVariants as kinds
use Rattle.conditions.specs.declared.account.AccountView.{AccountView}
use Rattle.conditions.specs.declared.secret_kind.SecretKind.{SecretKind}
use Rattle.conditions.specs.declared.secret_kind.SecretKind.TheVariants as secrets

-- a form and a password rest on the user's password, a one-time code on its secret, a recovery code on the list
abbrev pub secret_of : Kind → Option SecretKind
secret_of kinds.Allow = None
secret_of kinds.Deny = None
secret_of kinds.Cookie = None
secret_of kinds.Username = None
secret_of kinds.Password = Some secrets.Password
secret_of kinds.Form = Some secrets.Password
secret_of kinds.Otp = Some secrets.Otp
secret_of kinds.Recovery = Some secrets.Recovery

abbrev pub has_secret : AccountView → SecretKind → Bool
has_secret a secrets.Password = a.password
has_secret a secrets.Otp = a.otp
has_secret a secrets.Recovery = a.recovery

abbrev pub same_secret : SecretKind → SecretKind → Bool
same_secret secrets.Password secrets.Password = true
same_secret secrets.Otp secrets.Otp = true
same_secret secrets.Recovery secrets.Recovery = true
same_secret kind other = false
