-- How far posts lift the counters.
use Rattle.std.proofs.Common.{ℕ, ◌-◌, ◌^◌, List, [], ◌++◌, Option, Some, None, refl, arith}
use Rattle.std.specs.Prelude.{Result, Ok, Err}
use Rattle.login_base.specs.declared.id.TabKey.{TabKey}
use Rattle.login_base.specs.declared.id.UserId.{UserId}
use Rattle.realm_data.specs.PasswordHash.{HashedPassword}
use Rattle.realm_data.specs.declared.action.Action.{Action}
use Rattle.realm_data.specs.declared.action.Action.TheVariants as actions
use Rattle.realm_data.specs.declared.realm_parts.RealmParts.{RealmParts}
use Rattle.asks.specs.declared.ask.Form.{Form}
use Rattle.asks.specs.declared.ask.Form.TheVariants as forms
use Rattle.asks.specs.declared.ask.Post.{Post}
use Rattle.asks.specs.declared.finding.Finding.{Finding}
use Rattle.facts.specs.declared.fact.Fact.{Fact}
use Rattle.facts.specs.Realms.{realm_of}
use Rattle.hall_answers.specs.declared.refusal.Refusal.{Refusal}
use Rattle.hall_answers.specs.HasSerials.{HasSerials}
use Rattle.hall_answers.specs.Passwords.{derived, password_facts}
use Rattle.hall_answers.specs.Refusals.{settled}
use Rattle.hall_answers.specs.Setting.{Setting}
use Rattle.hall_answers.proofs.Lifts.{Lifts, lifts, nothing, both, leaves_room}
use Rattle.login_progress.specs.declared.known_tab.KnownTab.{KnownTab}
use Rattle.login_progress.specs.declared.progress.Progress.{Progress}
use Rattle.login_progress.specs.Progress.{progress_of, action_in}
use Rattle.tab_asks.specs.declared.check.Check.{Check}
use Rattle.tab_asks.specs.declared.check.Check.TheVariants as checks
use Rattle.tab_asks.specs.declared.check.Credential.{Credential}
use Rattle.tab_asks.specs.declared.check.Spent.{Spent}
use Rattle.tab_asks.specs.declared.check.Spent.TheVariants as spends
use Rattle.tab_asks.specs.declared.passing.Passing.{Passing}
use Rattle.tab_asks.specs.Deeds.{new_serial, done_facts, step_used, secret_deed, codes_under, deed_facts}
use Rattle.tab_asks.specs.Forms.{code_evidence}
use Rattle.tab_asks.specs.Post.{check_post, check_form, accepted_facts, answer_to_accepted, shown_again, answer_to_check, post_where, post_by, post_in, due_post}
use Rattle.tab_pages.specs.Visit.{check_tab}
use Rattle.tab_pages.proofs.SerialLemmas.{tab_lifts}

-- ---- what an accepted post adds

code_lifts : (old : List Fact) (passing : Passing) (execution : List ℕ) (spent : Spent) → Lifts 0 old (code_evidence passing execution spent)
code_lifts old passing execution spends.Nothing = nothing 0 old
code_lifts old passing execution (spends.Step step) = lifts 0 old _ (omega arith) (omega arith) refl
code_lifts old passing execution (spends.Number number) = lifts 0 old _ (omega arith) (omega arith) refl

-- a secret that is set has the next serial
password_lifts : (setting : Setting) (user : UserId) (password : Option HashedPassword) (by : Option TabKey) (action : Action)
    → Lifts 1 setting.facts (password_facts user (new_serial setting) password by ++ done_facts user action)
password_lifts setting user None by action = lifts 1 setting.facts _ (omega arith) (omega arith) refl
password_lifts setting user (Some hash) by action = lifts 1 setting.facts _ (omega arith) (omega arith) refl

secret_lifts : (setting : Setting) (known : KnownTab) (user : UserId) (spent : Spent)
    → Lifts 1 setting.facts (secret_deed setting known user ++ step_used (new_serial setting) spent ++ done_facts user actions.ConfigureOtp)
secret_lifts setting known user spends.Nothing = lifts 1 setting.facts _ (omega arith) (omega arith) refl
secret_lifts setting known user (spends.Step step) = lifts 1 setting.facts _ (omega arith) (omega arith) refl
secret_lifts setting known user (spends.Number number) = lifts 1 setting.facts _ (omega arith) (omega arith) refl

codes_lift : (setting : Setting) (known : KnownTab) (user : UserId) (realm : Option RealmParts)
    → Lifts 1 setting.facts (codes_under realm setting known user ++ done_facts user actions.RecoveryCodes)
codes_lift setting known user None = lifts 1 setting.facts _ (omega arith) (omega arith) refl
codes_lift setting known user (Some realm) = lifts 1 setting.facts _ (omega arith) (omega arith) refl

deeds_lift : (setting : Setting) (known : KnownTab) (form : Form) (finding : Finding) (user : UserId) (spent : Spent)
    → Lifts 1 setting.facts (deed_facts setting known form finding user spent)
deeds_lift setting known forms.Terms finding user spent = lifts 1 setting.facts _ (omega arith) (omega arith) refl
deeds_lift setting known (forms.UpdatePassword password) finding user spent = password_lifts setting user (derived finding) (Some known.tab) actions.UpdatePassword
deeds_lift setting known (forms.ConfigureOtp value) finding user spent = secret_lifts setting known user spent
deeds_lift setting known forms.RecoveryCodes finding user spent = codes_lift setting known user (realm_of known.opening.version setting.facts)
deeds_lift setting known (forms.Username execution name) finding user spent = nothing 1 setting.facts
deeds_lift setting known (forms.Password execution password) finding user spent = nothing 1 setting.facts
deeds_lift setting known (forms.NamePassword execution name password) finding user spent = nothing 1 setting.facts
deeds_lift setting known (forms.Value execution value) finding user spent = nothing 1 setting.facts
deeds_lift setting known forms.VerifyEmail finding user spent = nothing 1 setting.facts

-- a post gives evidence, or does an action: it isn't both that take a serial
facts_lift : (setting : Setting) (known : KnownTab) (form : Form) (finding : Finding) (user : UserId) (credential : Credential)
    → Lifts 1 setting.facts (accepted_facts setting known form finding user credential)
facts_lift setting known (forms.Username execution name) finding user credential = lifts 1 setting.facts _ (omega arith) (omega arith) refl
facts_lift setting known (forms.NamePassword execution name password) finding user credential = lifts 1 setting.facts _ (omega arith) (omega arith) refl
facts_lift setting known (forms.Password execution password) finding user credential = lifts 1 setting.facts _ (omega arith) (omega arith) refl
facts_lift setting known (forms.Value execution value) finding user credential =
    let passing : Passing = record { tab = known.tab; user = user; credential = credential; moment = setting.moment } in
    let evidence = code_evidence passing execution credential.spent in
    both 0 1 setting.facts evidence [] (code_lifts setting.facts passing execution credential.spent) (nothing 1 (setting.facts ++ evidence))
facts_lift setting known forms.Terms finding user credential = deeds_lift setting known forms.Terms finding user credential.spent
facts_lift setting known (forms.UpdatePassword password) finding user credential = deeds_lift setting known (forms.UpdatePassword password) finding user credential.spent
facts_lift setting known (forms.ConfigureOtp value) finding user credential = deeds_lift setting known (forms.ConfigureOtp value) finding user credential.spent
facts_lift setting known forms.RecoveryCodes finding user credential = deeds_lift setting known forms.RecoveryCodes finding user credential.spent
facts_lift setting known forms.VerifyEmail finding user credential = nothing 1 setting.facts

accepted_lifts : (setting : Setting) (known : KnownTab) (form : Form) (finding : Finding) (user : UserId) (credential : Credential)
    → Lifts 2 setting.facts (answer_to_accepted setting known form finding user credential).added
unfolding answer_to_accepted
accepted_lifts setting known form finding user credential =
    let accepted = accepted_facts setting known form finding user credential in
    both 1 1 setting.facts accepted _ (facts_lift setting known form finding user credential) (tab_lifts (setting.facts ++ accepted) setting _)

again_lifts : (setting : Setting) (known : KnownTab) (action : Option Action) (user : Option UserId) → Lifts 2 setting.facts (shown_again setting known action user)
again_lifts setting known None None = lifts 2 setting.facts _ (omega arith) (omega arith) refl
again_lifts setting known None (Some user) = lifts 2 setting.facts _ (omega arith) (omega arith) refl
again_lifts setting known (Some action) None = lifts 2 setting.facts _ (omega arith) (omega arith) refl
again_lifts setting known (Some action) (Some user) = lifts 2 setting.facts _ (omega arith) (omega arith) refl

check_lifts : (setting : Setting) (known : KnownTab) (progress : Progress) (form : Form) (finding : Finding) (check : Check)
    → Lifts 2 setting.facts (answer_to_check setting known progress form finding check).added
unfolding answer_to_check
check_lifts setting known progress form finding (checks.Fits user credential) = accepted_lifts setting known form finding user credential
check_lifts setting known progress form finding (checks.Wrong user) = again_lifts setting known (action_in progress) user
check_lifts setting known progress form finding (checks.WrongCode user) = again_lifts setting known (action_in progress) user
check_lifts setting known progress form finding (checks.SpentCode step) = again_lifts setting known (action_in progress) None

form_lifts : (setting : Setting) (known : KnownTab) (progress : Progress) (form : Form) (finding : Finding) (check : Result Check Refusal)
    → Lifts 2 setting.facts (settled setting.facts (Some known.tab) (answer_to_check setting known progress form finding) check).added
form_lifts setting known progress form finding (Ok check) = check_lifts setting known progress form finding check
form_lifts setting known progress form finding (Err refusal) = nothing 2 setting.facts

named_lifts : (setting : Setting) (form : Form) (finding : Finding) (known : KnownTab) (named : Result (Option UserId) Refusal)
    → Lifts 2 setting.facts (settled setting.facts (Some known.tab) (post_by setting form finding known) named).added
unfolding post_where
named_lifts setting form finding known (Ok named) =
    let progress = progress_of setting.facts setting.moment known in
    form_lifts setting known progress form finding (check_form setting known progress named form finding)
named_lifts setting form finding known (Err refusal) = nothing 2 setting.facts

known_lifts : (setting : Setting) (post : Post) (finding : Finding) (known : Result KnownTab Refusal)
    → Lifts 2 setting.facts (settled setting.facts None (post_in setting post finding) known).added
unfolding post_in
known_lifts setting post finding (Ok known) = named_lifts setting post.form finding known (check_post setting.facts setting.moment known post)
known_lifts setting post finding (Err refusal) = nothing 2 setting.facts

pub post_lifts : (setting : Setting) (post : Post) (finding : Finding) → Lifts 2 setting.facts (due_post setting post finding).added
unfolding due_post
post_lifts setting post finding = known_lifts setting post finding (check_tab setting.facts setting.moment post.root post.tab)

-- ---- room for what comes after

pub accepted_leaves_room : (setting : Setting) (known : KnownTab) (form : Form) (finding : Finding) (user : UserId) (credential : Credential) → HasSerials setting.facts (2 ^ 63 - 8)
    → HasSerials (setting.facts ++ accepted_facts setting known form finding user credential) (2 ^ 63)
accepted_leaves_room setting known form finding user credential has =
    leaves_room 1 setting.facts _ (omega arith) has (facts_lift setting known form finding user credential)
