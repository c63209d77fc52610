-- What asks do with a password, and what a check of one may find.
use Rattle.std.specs.Prelude.{ℕ, Bool, true, false, ◌&&◌, List, [], ◌∷◌, Option, Some, None}
use Rattle.realm_data.specs.PasswordHash.{is_iterations}
use Rattle.asks.specs.declared.admin.AdminVerb.{AdminVerb}
use Rattle.asks.specs.declared.admin.AdminVerb.TheVariants as verbs
use Rattle.asks.specs.declared.admin.NewUser.{NewUser}
use Rattle.asks.specs.declared.ask.Ask.{Ask}
use Rattle.asks.specs.declared.ask.Ask.TheVariants as asks
use Rattle.asks.specs.declared.ask.Form.{Form}
use Rattle.asks.specs.declared.ask.Form.TheVariants as forms
use Rattle.asks.specs.declared.finding.Finding.{Finding}
use Rattle.asks.specs.declared.finding.Finding.TheVariants as findings
use Rattle.asks.specs.declared.finding.PasswordUse.{PasswordUse}
use Rattle.asks.specs.declared.finding.PasswordUse.TheVariants as uses

-- ---- the password of an ask

-- no password, one that is compared with the kept one, or one that becomes the kept one
pub data Slot : Type 0 where
  NoPassword : Slot
  Checks : List ℕ → Slot
  Sets : List ℕ → Slot

abbrev pub form_slot : Form → Slot
form_slot (forms.Username execution name) = NoPassword
form_slot (forms.Password execution password) = Checks password
form_slot (forms.NamePassword execution name password) = Checks password
form_slot (forms.Value execution value) = NoPassword
form_slot forms.Terms = NoPassword
form_slot (forms.UpdatePassword password) = Sets password
form_slot (forms.ConfigureOtp value) = NoPassword
form_slot forms.RecoveryCodes = NoPassword
form_slot forms.VerifyEmail = NoPassword

abbrev pub given_slot : Option (List ℕ) → Slot
given_slot None = NoPassword
given_slot (Some password) = Sets password

abbrev pub verb_slot : AdminVerb → Slot
verb_slot (verbs.RealmPut realm) = NoPassword
verb_slot (verbs.UserAdd user) = given_slot user.password
verb_slot (verbs.Roles name roles) = NoPassword
verb_slot (verbs.SetPassword name password) = Sets password
verb_slot (verbs.OtpSet name secret) = NoPassword
verb_slot (verbs.OtpRemove name) = NoPassword
verb_slot (verbs.Require name action) = NoPassword
verb_slot (verbs.Enable name) = NoPassword
verb_slot (verbs.Disable name) = NoPassword
verb_slot (verbs.Unlock name) = NoPassword
verb_slot (verbs.Token name action life) = NoPassword
verb_slot (verbs.Revoke session) = NoPassword
verb_slot verbs.Sweep = NoPassword

abbrev pub slot_of : Ask → Slot
slot_of (asks.Bad at) = NoPassword
slot_of (asks.NewTab new) = NoPassword
slot_of (asks.Page root tab) = NoPassword
slot_of (asks.Post post) = form_slot post.form
slot_of (asks.Verify key) = NoPassword
slot_of (asks.Reset key password) = Sets password
slot_of (asks.Logout root) = NoPassword
slot_of (asks.Admin access verb) = verb_slot verb

abbrev pub use_of : Slot → PasswordUse
use_of NoPassword = uses.NoPassword
use_of (Checks password) = uses.Checks
use_of (Sets password) = uses.Sets

abbrev pub text_of : Slot → List ℕ
text_of NoPassword = []
text_of (Checks password) = password
text_of (Sets password) = password

abbrev pub password_use : Ask → PasswordUse
password_use ask = use_of (slot_of ask)

-- the password of an ask, empty where it has none
abbrev pub password_text : Ask → List ℕ
password_text ask = text_of (slot_of ask)

-- ---- the ask with its password gone

abbrev pub emptied_form : Form → Form
emptied_form (forms.Username execution name) = forms.Username execution name
emptied_form (forms.Password execution password) = forms.Password execution []
emptied_form (forms.NamePassword execution name password) = forms.NamePassword execution name []
emptied_form (forms.Value execution value) = forms.Value execution value
emptied_form forms.Terms = forms.Terms
emptied_form (forms.UpdatePassword password) = forms.UpdatePassword []
emptied_form (forms.ConfigureOtp value) = forms.ConfigureOtp value
emptied_form forms.RecoveryCodes = forms.RecoveryCodes
emptied_form forms.VerifyEmail = forms.VerifyEmail

abbrev pub emptied_password : Option (List ℕ) → Option (List ℕ)
emptied_password None = None
emptied_password (Some password) = Some []

abbrev pub emptied_verb : AdminVerb → AdminVerb
emptied_verb (verbs.RealmPut realm) = verbs.RealmPut realm
emptied_verb (verbs.UserAdd user) = verbs.UserAdd (record user { password = emptied_password user.password })
emptied_verb (verbs.Roles name roles) = verbs.Roles name roles
emptied_verb (verbs.SetPassword name password) = verbs.SetPassword name []
emptied_verb (verbs.OtpSet name secret) = verbs.OtpSet name secret
emptied_verb (verbs.OtpRemove name) = verbs.OtpRemove name
emptied_verb (verbs.Require name action) = verbs.Require name action
emptied_verb (verbs.Enable name) = verbs.Enable name
emptied_verb (verbs.Disable name) = verbs.Disable name
emptied_verb (verbs.Unlock name) = verbs.Unlock name
emptied_verb (verbs.Token name action life) = verbs.Token name action life
emptied_verb (verbs.Revoke session) = verbs.Revoke session
emptied_verb verbs.Sweep = verbs.Sweep

abbrev pub emptied : Ask → Ask
emptied (asks.Bad at) = asks.Bad at
emptied (asks.NewTab new) = asks.NewTab new
emptied (asks.Page root tab) = asks.Page root tab
emptied (asks.Post post) = asks.Post (record post { form = emptied_form post.form })
emptied (asks.Verify key) = asks.Verify key
emptied (asks.Reset key password) = asks.Reset key []
emptied (asks.Logout root) = asks.Logout root
emptied (asks.Admin access verb) = asks.Admin access (emptied_verb verb)

-- ---- what a check may find

-- the finding is one of what the ask does with its password
abbrev pub is_finding_of : PasswordUse → Finding → Bool
is_finding_of uses.NoPassword findings.None = true
is_finding_of uses.Checks (findings.Checked had fits) = true
is_finding_of uses.Sets (findings.Derived salt iterations digest) = is_iterations iterations
is_finding_of usage finding = false

abbrev pub is_empty : List ℕ → Bool
is_empty [] = true
is_empty (b ∷ bytes) = false

-- the password is gone from the ask, and the finding is one of such an ask
abbrev pub is_solved : Ask → Finding → Bool
is_solved ask finding = is_empty (password_text ask) && is_finding_of (password_use ask) finding
