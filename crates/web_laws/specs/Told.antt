-- Whom an administrator's ask names.
use Rattle.std.specs.Prelude.{Bool, true}
use Rattle.login_base.specs.Names.{is_name}
use Rattle.asks.specs.declared.admin.AdminVerb.{AdminVerb}
use Rattle.asks.specs.declared.admin.AdminVerb.TheVariants as verbs
use Rattle.asks.specs.declared.ask.Ask.{Ask}
use Rattle.asks.specs.declared.ask.Ask.TheVariants as asks

-- the name of a verb is one
abbrev pub verb_has_name : AdminVerb → Bool
verb_has_name (verbs.RealmPut realm) = true
verb_has_name (verbs.UserAdd new) = is_name new.name
verb_has_name (verbs.Roles name roles) = is_name name
verb_has_name (verbs.SetPassword name password) = is_name name
verb_has_name (verbs.OtpSet name secret) = is_name name
verb_has_name (verbs.OtpRemove name) = is_name name
verb_has_name (verbs.Require name action) = is_name name
verb_has_name (verbs.Enable name) = is_name name
verb_has_name (verbs.Disable name) = is_name name
verb_has_name (verbs.Unlock name) = is_name name
verb_has_name (verbs.Token name action life) = is_name name
verb_has_name (verbs.Revoke session) = true
verb_has_name verbs.Sweep = true

abbrev pub tells_name : Ask → Bool
tells_name (asks.Admin access verb) = verb_has_name verb
tells_name ask = true
