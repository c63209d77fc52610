-- The password of a user who may be unknown.
use Rattle.std.specs.Prelude.{List, Option, option_and_then}
use Rattle.login_base.specs.declared.id.UserId.{UserId}
use Rattle.facts.specs.declared.fact.Fact.{Fact}
use Rattle.facts.specs.declared.user_password.UserPassword.{UserPassword}
use Rattle.facts.specs.Secrets.{password_of}

-- the password that the user has, if there is a user
unfoldable pub password_for : List Fact → Option UserId → Option UserPassword
password_for facts user = option_and_then (λ user. password_of user facts) user
