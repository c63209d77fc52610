-- An ask that does nothing with a password has none.
use Rattle.std.proofs.Common.{◌≡◌, ℕ, Bool, true, false, ◌&&◌, List, [], Option, Some, None, refl, ap, subst, sym}
use Rattle.asks.specs.declared.admin.AdminVerb.{AdminVerb}
use Rattle.asks.specs.declared.admin.AdminVerb.TheVariants as verbs
use Rattle.asks.specs.declared.ask.Ask.{Ask}
use Rattle.asks.specs.declared.ask.Ask.TheVariants as asks
use Rattle.asks.specs.declared.ask.Form.{Form}
use Rattle.asks.specs.declared.ask.Form.TheVariants as forms
use Rattle.asks.specs.declared.ask.Post.{Post}
use Rattle.asks.specs.declared.admin.NewUser.{NewUser}
use Rattle.asks.specs.declared.finding.Finding.TheVariants as findings
use Rattle.asks.specs.declared.finding.PasswordUse.TheVariants as uses
use Rattle.asks.specs.Passwords.{Slot, NoPassword, Checks, Sets, form_slot, given_slot, verb_slot, slot_of, use_of, text_of, password_use, password_text, emptied_form, emptied_password, emptied_verb, emptied, is_empty, is_finding_of, is_solved}

no_slot : (slot : Slot) → use_of slot ≡ uses.NoPassword → slot ≡ NoPassword
no_slot NoPassword h = refl
no_slot (Checks password) h = absurd cc
no_slot (Sets password) h = absurd cc

pub plain_is_solved : (ask : Ask) → password_use ask ≡ uses.NoPassword → is_solved ask findings.None ≡ true
plain_is_solved ask h = subst (λ (slot : Slot). (is_empty (text_of slot) && is_finding_of (use_of slot) findings.None) ≡ true) (sym (no_slot (slot_of ask) h)) refl

-- ---- an emptied ask does the same with its password, which is empty

abbrev emptied_slot : Slot → Slot
emptied_slot NoPassword = NoPassword
emptied_slot (Checks password) = Checks []
emptied_slot (Sets password) = Sets []

form_emptied : (form : Form) → form_slot (emptied_form form) ≡ emptied_slot (form_slot form)
form_emptied (forms.Username execution name) = refl
form_emptied (forms.Password execution password) = refl
form_emptied (forms.NamePassword execution name password) = refl
form_emptied (forms.Value execution value) = refl
form_emptied forms.Terms = refl
form_emptied (forms.UpdatePassword password) = refl
form_emptied (forms.ConfigureOtp value) = refl
form_emptied forms.RecoveryCodes = refl
form_emptied forms.VerifyEmail = refl

given_emptied : (password : Option (List ℕ)) → given_slot (emptied_password password) ≡ emptied_slot (given_slot password)
given_emptied None = refl
given_emptied (Some password) = refl

verb_emptied : (verb : AdminVerb) → verb_slot (emptied_verb verb) ≡ emptied_slot (verb_slot verb)
verb_emptied (verbs.RealmPut realm) = refl
verb_emptied (verbs.UserAdd user) = given_emptied user.password
verb_emptied (verbs.Roles name roles) = refl
verb_emptied (verbs.SetPassword name password) = refl
verb_emptied (verbs.OtpSet name secret) = refl
verb_emptied (verbs.OtpRemove name) = refl
verb_emptied (verbs.Require name action) = refl
verb_emptied (verbs.Enable name) = refl
verb_emptied (verbs.Disable name) = refl
verb_emptied (verbs.Unlock name) = refl
verb_emptied (verbs.Token name action life) = refl
verb_emptied (verbs.Revoke session) = refl
verb_emptied verbs.Sweep = refl

slot_emptied : (ask : Ask) → slot_of (emptied ask) ≡ emptied_slot (slot_of ask)
slot_emptied (asks.Bad at) = refl
slot_emptied (asks.NewTab new) = refl
slot_emptied (asks.Page root tab) = refl
slot_emptied (asks.Post post) = form_emptied post.form
slot_emptied (asks.Verify key) = refl
slot_emptied (asks.Reset key password) = refl
slot_emptied (asks.Logout root) = refl
slot_emptied (asks.Admin access verb) = verb_emptied verb

same_use : (slot : Slot) → use_of (emptied_slot slot) ≡ use_of slot
same_use NoPassword = refl
same_use (Checks password) = refl
same_use (Sets password) = refl

no_text : (slot : Slot) → text_of (emptied_slot slot) ≡ []
no_text NoPassword = refl
no_text (Checks password) = refl
no_text (Sets password) = refl

pub emptied_ask : (ask : Ask) → (password_use (emptied ask) ≡ password_use ask) × (password_text (emptied ask) ≡ [])
emptied_ask ask = (
  subst (λ (slot : Slot). use_of slot ≡ use_of (slot_of ask)) (sym (slot_emptied ask)) (same_use (slot_of ask)),
  subst (λ (slot : Slot). text_of slot ≡ []) (sym (slot_emptied ask)) (no_text (slot_of ask)),
)

-- ---- an ask that does nothing with a password is itself when it is emptied

form_plain : (form : Form) → form_slot form ≡ NoPassword → emptied_form form ≡ form
form_plain (forms.Username execution name) h = refl
form_plain (forms.Password execution password) h = absurd cc
form_plain (forms.NamePassword execution name password) h = absurd cc
form_plain (forms.Value execution value) h = refl
form_plain forms.Terms h = refl
form_plain (forms.UpdatePassword password) h = absurd cc
form_plain (forms.ConfigureOtp value) h = refl
form_plain forms.RecoveryCodes h = refl
form_plain forms.VerifyEmail h = refl

given_plain : (password : Option (List ℕ)) → given_slot password ≡ NoPassword → emptied_password password ≡ password
given_plain None h = refl
given_plain (Some password) h = absurd cc

verb_plain : (verb : AdminVerb) → verb_slot verb ≡ NoPassword → emptied_verb verb ≡ verb
verb_plain (verbs.RealmPut realm) h = refl
verb_plain (verbs.UserAdd user) h = ap (λ (p : Option (List ℕ)). verbs.UserAdd (record user { password = p })) (given_plain user.password h)
verb_plain (verbs.Roles name roles) h = refl
verb_plain (verbs.SetPassword name password) h = absurd cc
verb_plain (verbs.OtpSet name secret) h = refl
verb_plain (verbs.OtpRemove name) h = refl
verb_plain (verbs.Require name action) h = refl
verb_plain (verbs.Enable name) h = refl
verb_plain (verbs.Disable name) h = refl
verb_plain (verbs.Unlock name) h = refl
verb_plain (verbs.Token name action life) h = refl
verb_plain (verbs.Revoke session) h = refl
verb_plain verbs.Sweep h = refl

slot_plain : (ask : Ask) → slot_of ask ≡ NoPassword → emptied ask ≡ ask
slot_plain (asks.Bad at) h = refl
slot_plain (asks.NewTab new) h = refl
slot_plain (asks.Page root tab) h = refl
slot_plain (asks.Post post) h = ap (λ (f : Form). asks.Post (record post { form = f })) (form_plain post.form h)
slot_plain (asks.Verify key) h = refl
slot_plain (asks.Reset key password) h = absurd cc
slot_plain (asks.Logout root) h = refl
slot_plain (asks.Admin access verb) h = ap (asks.Admin access) (verb_plain verb h)

pub emptied_plain : (ask : Ask) → password_use ask ≡ uses.NoPassword → emptied ask ≡ ask
emptied_plain ask h = slot_plain ask (no_slot (slot_of ask) h)
