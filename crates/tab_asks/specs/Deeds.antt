-- The actions that a post may do.
use Rattle.std.specs.Prelude.{ℕ, Bool, true, false, ◌&&◌, ◌+◌, List, [], ◌∷◌, ◌++◌, Option, Some, None}
use Rattle.conditions.specs.declared.secret_kind.SecretKind.TheVariants as kinds
use Rattle.login_base.specs.declared.id.UserId.{UserId}
use Rattle.realm_data.specs.declared.action.Action.{Action}
use Rattle.realm_data.specs.declared.action.Action.TheVariants as actions
use Rattle.realm_data.specs.declared.realm_parts.RealmParts.{RealmParts}
use Rattle.asks.specs.declared.ask.Form.{Form}
use Rattle.asks.specs.declared.ask.Form.TheVariants as forms
use Rattle.asks.specs.declared.finding.Finding.{Finding}
use Rattle.facts.specs.declared.fact.Fact.{Fact}
use Rattle.facts.specs.declared.fact.Fact.TheVariants as events
use Rattle.facts.specs.declared.secret.Secret.TheVariants as secrets
use Rattle.facts.specs.declared.tabs.Page.{Page}
use Rattle.facts.specs.Realms.{realm_of}
use Rattle.facts.specs.Secrets.{KeptOtp}
use Rattle.facts.specs.Serials.{last_stored_serial}
use Rattle.hall_answers.specs.Passwords.{derived, password_facts}
use Rattle.hall_answers.specs.Setting.{Setting}
use Rattle.login_progress.specs.declared.known_tab.KnownTab.{KnownTab}
use Rattle.offers.specs.Offers.{offered_key, offered_digests}
use Rattle.tab_pages.specs.Offering.{is_shown, offer_on}
use Rattle.tab_asks.specs.declared.check.Check.{Check}
use Rattle.tab_asks.specs.declared.check.Check.TheVariants as checks
use Rattle.tab_asks.specs.declared.check.Spent.{Spent}
use Rattle.tab_asks.specs.declared.check.Spent.TheVariants as spends
use Rattle.tab_asks.specs.Codes.{otp_check}

-- ---- whether one is asked

-- the form does the action; none verifies an e-mail address, which a token alone does
abbrev pub does : Form → Action → Bool
does forms.Terms actions.Terms = true
does (forms.UpdatePassword password) actions.UpdatePassword = true
does (forms.ConfigureOtp value) actions.ConfigureOtp = true
does forms.RecoveryCodes actions.RecoveryCodes = true
does form action = false

-- the form does the action that is asked, and the page that was shown last asks it too
abbrev pub does_asked : Option Action → Option Page → Form → Bool
does_asked None page form = false
does_asked (Some action) page form = does form action && is_shown page action

-- ---- the check

-- the serial of a secret that is set: the next one
abbrev pub new_serial : Setting → ℕ
new_serial setting = last_stored_serial setting.facts + 1

-- an action that takes no code is done by the user whose login it is
abbrev pub deed_check : Option UserId → Check
deed_check None = checks.Wrong None
deed_check (Some user) = checks.Fits user (record { serial = 0; spent = spends.Nothing })

-- the secret that a page offers, as one that has the next serial
abbrev pub offered_otp : Setting → Option Page → KeptOtp
offered_otp setting page = record { serial = new_serial setting; key = offered_key (offer_on page) }

-- a wrong code of an offered secret is no failure of the user's
abbrev pub uncounted : Check → Check
uncounted (checks.WrongCode user) = checks.WrongCode None
uncounted (checks.Fits user credential) = checks.Fits user credential
uncounted (checks.Wrong user) = checks.Wrong user
uncounted (checks.SpentCode step) = checks.SpentCode step

-- the code is one of the offered secret
abbrev pub setup_check : Setting → Option Page → Option UserId → List ℕ → Check
setup_check setting page None value = checks.WrongCode None
setup_check setting page (Some user) value = uncounted (otp_check setting user (Some (offered_otp setting page)) value)

-- ---- what it does

abbrev pub done_facts : UserId → Action → List Fact
done_facts user action = events.ActionDone user action ∷ []

-- the code of a time step is used up
abbrev pub step_used : ℕ → Spent → List Fact
step_used serial spends.Nothing = []
step_used serial (spends.Step step) = events.SpentStep serial step ∷ []
step_used serial (spends.Number number) = []

-- the offered secret of one-time codes is the user's from now on, set by the tab
abbrev pub secret_deed : Setting → KnownTab → UserId → List Fact
secret_deed setting known user =
    events.SecretSet user kinds.Otp (new_serial setting) (secrets.Otp (offered_key (offer_on known.state.page))) (Some known.tab) ∷ []

abbrev pub codes_under : Option RealmParts → Setting → KnownTab → UserId → List Fact
codes_under None setting known user = []
codes_under (Some realm) setting known user =
    events.SecretSet user kinds.Recovery (new_serial setting) (secrets.Recovery (offered_digests (offer_on known.state.page) realm.recovery_count)) (Some known.tab) ∷ []

-- so are the offered recovery codes, as many as the realm gives with which the tab was opened
abbrev pub codes_deed : Setting → KnownTab → UserId → List Fact
codes_deed setting known user = codes_under (realm_of known.opening.version setting.facts) setting known user

-- what the action of a form does; the form of an execution does none
abbrev pub deed_facts : Setting → KnownTab → Form → Finding → UserId → Spent → List Fact
deed_facts setting known forms.Terms finding user spent = done_facts user actions.Terms
deed_facts setting known (forms.UpdatePassword password) finding user spent =
    password_facts user (new_serial setting) (derived finding) (Some known.tab) ++ done_facts user actions.UpdatePassword
deed_facts setting known (forms.ConfigureOtp value) finding user spent =
    secret_deed setting known user ++ step_used (new_serial setting) spent ++ done_facts user actions.ConfigureOtp
deed_facts setting known forms.RecoveryCodes finding user spent = codes_deed setting known user ++ done_facts user actions.RecoveryCodes
deed_facts setting known (forms.Username execution name) finding user spent = []
deed_facts setting known (forms.Password execution password) finding user spent = []
deed_facts setting known (forms.NamePassword execution name password) finding user spent = []
deed_facts setting known (forms.Value execution value) finding user spent = []
deed_facts setting known forms.VerifyEmail finding user spent = []
