-- What an administrator's ask is due.
use Rattle.std.specs.Prelude.{None, Result, Ok, Err, if◌then◌else◌}
use Rattle.std.specs.Str.{bytes_eq}
use Rattle.realm_data.specs.declared.realm_parts.RealmParts.{RealmParts}
use Rattle.asks.specs.declared.admin.AdminVerb.{AdminVerb}
use Rattle.asks.specs.declared.admin.AdminVerb.TheVariants as verbs
use Rattle.asks.specs.declared.ask.Access.{Access}
use Rattle.asks.specs.declared.ask.Access.TheVariants as ways
use Rattle.asks.specs.declared.finding.Finding.{Finding}
use Rattle.hall_answers.specs.declared.answer.Answer.{Answer}
use Rattle.hall_answers.specs.declared.refusal.Refusal.{Refusal}
use Rattle.hall_answers.specs.declared.refusal.Refusal.TheVariants.{WrongKey}
use Rattle.hall_answers.specs.Refusals.{settled}
use Rattle.hall_answers.specs.Setting.{Setting}
use Rattle.admin_asks.specs.Closing.{due_enable, due_disable, due_unlock}
use Rattle.admin_asks.specs.Ending.{due_revoke, due_sweep}
use Rattle.admin_asks.specs.OtpRemove.{due_otp_remove}
use Rattle.admin_asks.specs.OtpSet.{due_otp_set}
use Rattle.admin_asks.specs.RealmPut.{due_realm_put}
use Rattle.admin_asks.specs.Require.{due_require}
use Rattle.admin_asks.specs.Roles.{due_roles}
use Rattle.admin_asks.specs.SetPassword.{due_set_password}
use Rattle.admin_asks.specs.Token.{due_token}
use Rattle.admin_asks.specs.UserAdd.{due_user_add}

-- an administrator comes in locally, or with the realm's key
unfoldable pub check_key : RealmParts → Access → Result (Unit {0}) Refusal
check_key realm ways.Local = Ok tt
check_key realm (ways.Key digest) = if bytes_eq digest realm.admin_key then Ok tt else Err WrongKey

abbrev pub due_verb : Setting → AdminVerb → Finding → Answer
due_verb setting (verbs.RealmPut realm) finding = due_realm_put setting realm
due_verb setting (verbs.UserAdd new) finding = due_user_add setting new finding
due_verb setting (verbs.Roles name roles) finding = due_roles setting name roles
due_verb setting (verbs.SetPassword name password) finding = due_set_password setting name finding
due_verb setting (verbs.OtpSet name secret) finding = due_otp_set setting name secret
due_verb setting (verbs.OtpRemove name) finding = due_otp_remove setting name
due_verb setting (verbs.Require name action) finding = due_require setting name action
due_verb setting (verbs.Enable name) finding = due_enable setting name
due_verb setting (verbs.Disable name) finding = due_disable setting name
due_verb setting (verbs.Unlock name) finding = due_unlock setting name
due_verb setting (verbs.Token name action life) finding = due_token setting name action life
due_verb setting (verbs.Revoke session) finding = due_revoke setting session
due_verb setting verbs.Sweep finding = due_sweep setting

abbrev pub verb_with : Setting → AdminVerb → Finding → Unit {0} → Answer
verb_with setting verb finding key = due_verb setting verb finding

unfoldable pub due_admin : Setting → Access → AdminVerb → Finding → Answer
due_admin setting access verb finding = settled setting.facts None (verb_with setting verb finding) (check_key setting.realm access)
