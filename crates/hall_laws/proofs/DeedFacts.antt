-- What holds of each fact that the action of a form adds, and what those facts leave as it is.
use Rattle.std.proofs.Common.{ℕ, [], ◌++◌, Option, Some, None}
use Rattle.std.specs.List.{All}
use Rattle.std.proofs.lemmas.List.Elements.{All-nil, All-cons, All-append}
use Rattle.conditions.specs.declared.secret_kind.SecretKind.{SecretKind}
use Rattle.conditions.specs.declared.secret_kind.SecretKind.TheVariants as kinds
use Rattle.login_base.specs.declared.id.TabKey.{TabKey}
use Rattle.login_base.specs.declared.id.UserId.{UserId}
use Rattle.realm_data.specs.PasswordHash.{HashedPassword}
use Rattle.realm_data.specs.declared.action.Action.{Action}
use Rattle.realm_data.specs.declared.action.Action.TheVariants as actions
use Rattle.realm_data.specs.declared.realm_parts.RealmParts.{RealmParts}
use Rattle.asks.specs.declared.ask.Form.{Form}
use Rattle.asks.specs.declared.ask.Form.TheVariants as forms
use Rattle.asks.specs.declared.finding.Finding.{Finding}
use Rattle.facts.specs.declared.fact.Fact.{Fact}
use Rattle.facts.specs.declared.fact.Fact.TheVariants as events
use Rattle.facts.specs.declared.secret.Secret.{Secret}
use Rattle.facts.specs.declared.secret.Secret.TheVariants as secrets
use Rattle.facts.specs.Realms.{realm_of}
use Rattle.hall_answers.specs.Passwords.{derived, password_facts}
use Rattle.hall_answers.specs.Setting.{Setting}
use Rattle.login_progress.specs.declared.known_tab.KnownTab.{KnownTab}
use Rattle.offers.specs.Offers.{offered_key, offered_digests}
use Rattle.tab_pages.specs.Offering.{offer_on}
use Rattle.tab_asks.specs.declared.check.Spent.{Spent}
use Rattle.tab_asks.specs.declared.check.Spent.TheVariants as spends
use Rattle.tab_asks.specs.Deeds.{new_serial, done_facts, step_used, secret_deed, codes_under, deed_facts}

module _ (P : Fact → Type 0) (set : (user : UserId) (kind : SecretKind) (serial : ℕ) (secret : Secret) (by : Option TabKey) → P (events.SecretSet user kind serial secret by))
    (done : (user : UserId) (action : Action) → P (events.ActionDone user action)) where
  pub done_all : (user : UserId) (action : Action) → All P (done_facts user action)
  done_all user action = All-cons P (events.ActionDone user action) [] (done user action) (All-nil P)

  pub password_all : (user : UserId) (serial : ℕ) (password : Option HashedPassword) (by : Option TabKey) → All P (password_facts user serial password by)
  password_all user serial None by = All-nil P
  password_all user serial (Some hash) by =
      All-cons P (events.SecretSet user kinds.Password serial (secrets.Password hash) by) [] (set user kinds.Password serial (secrets.Password hash) by) (All-nil P)

  pub secret_all : (setting : Setting) (known : KnownTab) (user : UserId) → All P (secret_deed setting known user)
  secret_all setting known user =
      let secret = secrets.Otp (offered_key (offer_on known.state.page)) in
      All-cons P (events.SecretSet user kinds.Otp (new_serial setting) secret (Some known.tab)) [] (set user kinds.Otp (new_serial setting) secret (Some known.tab)) (All-nil P)

  pub codes_all : (setting : Setting) (known : KnownTab) (user : UserId) (realm : Option RealmParts) → All P (codes_under realm setting known user)
  codes_all setting known user None = All-nil P
  codes_all setting known user (Some realm) =
      let secret = secrets.Recovery (offered_digests (offer_on known.state.page) realm.recovery_count) in
      All-cons P (events.SecretSet user kinds.Recovery (new_serial setting) secret (Some known.tab)) [] (set user kinds.Recovery (new_serial setting) secret (Some known.tab)) (All-nil P)

  module _ (step : (credential step : ℕ) → P (events.SpentStep credential step)) where
    used_all : (serial : ℕ) (spent : Spent) → All P (step_used serial spent)
    used_all serial spends.Nothing = All-nil P
    used_all serial (spends.Step at) = All-cons P (events.SpentStep serial at) [] (step serial at) (All-nil P)
    used_all serial (spends.Number number) = All-nil P

    pub deeds_all : (setting : Setting) (known : KnownTab) (form : Form) (finding : Finding) (user : UserId) (spent : Spent) → All P (deed_facts setting known form finding user spent)
    deeds_all setting known forms.Terms finding user spent = done_all user actions.Terms
    deeds_all setting known (forms.UpdatePassword password) finding user spent =
        All-append P (password_facts user (new_serial setting) (derived finding) (Some known.tab)) (done_facts user actions.UpdatePassword)
        (password_all user (new_serial setting) (derived finding) (Some known.tab)) (done_all user actions.UpdatePassword)
    deeds_all setting known (forms.ConfigureOtp value) finding user spent =
        let used = step_used (new_serial setting) spent in
        All-append P (secret_deed setting known user) (used ++ done_facts user actions.ConfigureOtp) (secret_all setting known user)
        (All-append P used (done_facts user actions.ConfigureOtp) (used_all (new_serial setting) spent) (done_all user actions.ConfigureOtp))
    deeds_all setting known forms.RecoveryCodes finding user spent =
        let realm = realm_of known.opening.version setting.facts in
        All-append P (codes_under realm setting known user) (done_facts user actions.RecoveryCodes) (codes_all setting known user realm) (done_all user actions.RecoveryCodes)
    deeds_all setting known (forms.Username execution name) finding user spent = All-nil P
    deeds_all setting known (forms.Password execution password) finding user spent = All-nil P
    deeds_all setting known (forms.NamePassword execution name password) finding user spent = All-nil P
    deeds_all setting known (forms.Value execution value) finding user spent = All-nil P
    deeds_all setting known forms.VerifyEmail finding user spent = All-nil P
