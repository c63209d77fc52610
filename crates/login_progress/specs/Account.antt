-- What a login sees of a user's account.
use Rattle.std.specs.Prelude.{ℕ, Bool, false, List, [], Option, Some, None, is_some, unwrap_or, option_and_then, option_map}
use Rattle.conditions.specs.declared.account.AccountView.{AccountView}
use Rattle.conditions.specs.declared.secret_kind.SecretKind.{SecretKind}
use Rattle.conditions.specs.Secrets.{has_secret}
use Rattle.login_base.specs.declared.id.UserId.{UserId}
use Rattle.one_time.specs.Verdicts.{next_number}
use Rattle.facts.specs.declared.fact.Fact.{Fact}
use Rattle.facts.specs.Accounts.{roles_of}
use Rattle.facts.specs.Secrets.{KeptRecovery, otp_of, password_of, recovery_of}
use Rattle.facts.specs.Spent.{codes_spent}
use Rattle.login_progress.specs.declared.account.Account.{Account}

-- the number of the next of these codes, none where all were used
abbrev pub next_of : List Fact → KeptRecovery → Option ℕ
next_of facts kept = next_number kept.digests (codes_spent kept.serial facts)

-- the number of the user's next recovery code
unfoldable pub next_code : List Fact → UserId → Option ℕ
next_code facts user = option_and_then (next_of facts) (recovery_of user facts)

-- the user's roles, and whether there is a password, a secret of one-time codes, an unspent recovery code
abbrev pub view_of : List Fact → UserId → AccountView
view_of facts user =
    record {
      roles = unwrap_or (roles_of user facts) [];
      password = is_some (password_of user facts);
      otp = is_some (otp_of user facts);
      recovery = is_some (next_code facts user);
    }

-- the account of a user who may be unknown
unfoldable pub account_of : List Fact → Option UserId → Account
account_of facts who = record { view = option_map (view_of facts) who; next_code = option_and_then (next_code facts) who }

-- the user is known and has the secret, of recovery codes an unspent one
abbrev pub holds : Option AccountView → SecretKind → Bool
holds None secret = false
holds (Some account) secret = has_secret account secret
