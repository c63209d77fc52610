-- Of what a fact can say something.
use Rattle.std.specs.Prelude.{ℕ, Bool, true, false, ◌&&◌, ◌==◌, Some, None}
use Rattle.login_base.specs.declared.id.RootKey.{RootKey}
use Rattle.login_base.specs.declared.id.SessionId.{SessionId}
use Rattle.login_base.specs.declared.id.TabKey.{TabKey}
use Rattle.login_base.specs.declared.id.TokenKey.{TokenKey}
use Rattle.login_base.specs.declared.id.UserId.{UserId}
use Rattle.facts.specs.declared.fact.Fact.{Fact}
use Rattle.facts.specs.declared.fact.Fact.TheVariants as events
use Rattle.facts.specs.declared.subject.Subject.{Subject}
use Rattle.facts.specs.declared.subject.Subject.TheVariants as subjects

abbrev pub subject_of : Fact → Subject
subject_of (events.RealmPut version realm) = subjects.Realm
subject_of (events.UserPut user name roles) = subjects.User user.0
subject_of (events.SecretSet user kind serial secret by) = subjects.User user.0
subject_of (events.ActionSet user kind) = subjects.User user.0
subject_of (events.ActionDone user kind) = subjects.User user.0
subject_of (events.TokenMade key user kind expiry) = subjects.Token key.0.serial
subject_of (events.SpentToken key) = subjects.Token key.0.serial
subject_of (events.Enabled user) = subjects.User user.0
subject_of (events.Disabled user) = subjects.User user.0
subject_of (events.Failed user moment) = subjects.User user.0
subject_of (events.SpentStep credential step) = subjects.Secret credential
subject_of (events.SpentRecovery credential number) = subjects.Secret credential
subject_of (events.Session session (Some root) user moment idle most) = subjects.Root root.0.serial session.0.serial
subject_of (events.Session session None user moment idle most) = subjects.Session session.0.serial
subject_of (events.Seen session moment) = subjects.Session session.0.serial
subject_of (events.Level session level moment) = subjects.Session session.0.serial
subject_of (events.SessionEnd session) = subjects.Session session.0.serial
subject_of (events.Completed tab user session moment) = subjects.Login tab.0.serial user.0
subject_of (events.Opened root tab version level life moment) = subjects.Opening root.0.serial tab.0.serial
subject_of (events.Rendered tab code action offer) = subjects.Tab tab.0.serial
subject_of (events.Named tab user) = subjects.Tab tab.0.serial
subject_of (events.Passed tab execution user kind credential moment) = subjects.Login tab.0.serial user.0
subject_of (events.Standing user standing) = subjects.User user.0
subject_of (events.Mark tabs stored used kept) = subjects.Other

-- it can be about the tab of the root
abbrev pub concerns : RootKey → TabKey → Subject → Bool
concerns root tab subjects.Realm = false
concerns root tab (subjects.User user) = false
concerns root tab (subjects.Secret serial) = false
concerns root tab (subjects.Tab serial) = serial == tab.0.serial
concerns root tab (subjects.Opening of serial) = serial == tab.0.serial
concerns root tab (subjects.Login serial user) = serial == tab.0.serial
concerns root tab (subjects.Root serial session) = serial == root.0.serial
concerns root tab (subjects.Session session) = true
concerns root tab (subjects.Token serial) = false
concerns root tab subjects.Other = false

-- it can be about the root: its tabs, or its session
abbrev pub is_of_root : RootKey → Subject → Bool
is_of_root root subjects.Realm = false
is_of_root root (subjects.User user) = false
is_of_root root (subjects.Secret serial) = false
is_of_root root (subjects.Tab serial) = false
is_of_root root (subjects.Opening serial tab) = serial == root.0.serial
is_of_root root (subjects.Login serial user) = false
is_of_root root (subjects.Root serial session) = serial == root.0.serial
is_of_root root (subjects.Session session) = true
is_of_root root (subjects.Token serial) = false
is_of_root root subjects.Other = false

-- it is about the opening of some tab
abbrev pub is_opening : Subject → Bool
is_opening (subjects.Opening root tab) = true
is_opening subject = false

-- it is about some session
abbrev pub is_session : Subject → Bool
is_session (subjects.Root root session) = true
is_session (subjects.Session session) = true
is_session subject = false

-- it is about this session
abbrev pub is_of_session : SessionId → Subject → Bool
is_of_session session (subjects.Root root serial) = serial == session.0.serial
is_of_session session (subjects.Session serial) = serial == session.0.serial
is_of_session session subject = false

-- it is about the realm
abbrev pub is_realm : Subject → Bool
is_realm subjects.Realm = true
is_realm subject = false

-- it is about some account
abbrev pub is_account : Subject → Bool
is_account (subjects.User user) = true
is_account subject = false

-- it is about the user's account
abbrev pub is_of_user : UserId → Subject → Bool
is_of_user user (subjects.User serial) = serial == user.0
is_of_user user subject = false

-- it is about a login of the user in the tab
abbrev pub is_login_in : TabKey → UserId → Subject → Bool
is_login_in tab user (subjects.Login serial of) = serial == tab.0.serial && of == user.0
is_login_in tab user subject = false

-- it is about the secret of this serial
abbrev pub is_of_secret : ℕ → Subject → Bool
is_of_secret serial (subjects.Secret own) = own == serial
is_of_secret serial subject = false

-- it is about some token
abbrev pub is_token : Subject → Bool
is_token (subjects.Token serial) = true
is_token subject = false

-- it is about the token of this key
abbrev pub is_of_token : TokenKey → Subject → Bool
is_of_token key (subjects.Token serial) = serial == key.0.serial
is_of_token key subject = false

-- it is about none of these
abbrev pub is_other : Subject → Bool
is_other subjects.Other = true
is_other subject = false
