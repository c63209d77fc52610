-- The texts of the reply that an ask is due are plain.
use Rattle.std.proofs.Common.{◌≡◌, ℕ, true, List, ◌++◌, refl}
use Rattle.std.specs.Prelude.{Option, Some, None, Result, Ok, Err, codes, decimal, length}
use Rattle.std.specs.List.{list_all}
use Rattle.login_base.specs.declared.id.RootKey.{RootKey}
use Rattle.login_base.specs.declared.id.TabKey.{TabKey}
use Rattle.login_base.specs.declared.id.TokenKey.{TokenKey}
use Rattle.login_base.specs.declared.id.UserId.{UserId}
use Rattle.realm_data.specs.declared.action.Action.{Action}
use Rattle.realm_data.specs.declared.realm_parts.RealmParts.{RealmParts}
use Rattle.asks.specs.declared.admin.AdminVerb.{AdminVerb}
use Rattle.asks.specs.declared.admin.AdminVerb.TheVariants as verbs
use Rattle.asks.specs.declared.ask.Access.{Access}
use Rattle.asks.specs.declared.ask.Ask.{Ask}
use Rattle.asks.specs.declared.ask.Ask.TheVariants as asks
use Rattle.asks.specs.declared.ask.Form.{Form}
use Rattle.asks.specs.declared.ask.NewTab.{NewTab}
use Rattle.asks.specs.declared.ask.Post.{Post}
use Rattle.asks.specs.declared.finding.Finding.{Finding}
use Rattle.facts.specs.declared.fact.Fact.{Fact}
use Rattle.facts.specs.Realms.{realm_of}
use Rattle.hall_answers.specs.declared.answer.Answer.{Answer}
use Rattle.hall_answers.specs.declared.refusal.Refusal.{Refusal}
use Rattle.hall_answers.specs.declared.refusal.Refusal.TheVariants as refusals
use Rattle.hall_answers.specs.Ids.{next_token}
use Rattle.hall_answers.specs.Refusals.{what_of, settled}
use Rattle.hall_answers.specs.Setting.{Setting}
use Rattle.login_progress.specs.declared.known_tab.KnownTab.{KnownTab}
use Rattle.login_progress.specs.declared.progress.Progress.{Progress}
use Rattle.login_progress.specs.declared.progress.Progress.TheVariants as progresses
use Rattle.login_progress.specs.Progress.{progress_of}
use Rattle.tab_pages.specs.Offering.{offer_for, shown_in, shown_under}
use Rattle.tab_pages.specs.Pages.{completion, progress_answer, tab_answer, tab_answer_then, visit_answer, due_page}
use Rattle.tab_pages.specs.Visit.{check_tab, check_visit}
use Rattle.root_asks.specs.Logout.{due_logout}
use Rattle.root_asks.specs.NewTab.{check_new_tab, facts_opened, tab_opened, new_tab_answer, due_new_tab}
use Rattle.tab_asks.specs.declared.check.Check.{Check}
use Rattle.tab_asks.specs.declared.check.Check.TheVariants as checks
use Rattle.tab_asks.specs.Post.{accepted_facts, known_over, answer_to_accepted, answer_to_check, check_form, check_post, next_page, post_where, post_by, post_in, due_post}
use Rattle.token_asks.specs.Follow.{check_token, answer_to_verify, answer_to_reset, due_verify, due_reset}
use Rattle.admin_asks.specs.Admin.{check_key, due_verb, verb_with, due_admin}
use Rattle.admin_asks.specs.Closing.{answer_to_enable, answer_to_disable, check_open, due_enable, due_disable, due_unlock}
use Rattle.admin_asks.specs.Ending.{check_session, answer_to_revoke, outlived_ids, due_revoke, due_sweep}
use Rattle.admin_asks.specs.Named.{check_user}
use Rattle.admin_asks.specs.OtpRemove.{check_there, answer_to_otp_remove, due_otp_remove}
use Rattle.admin_asks.specs.OtpSet.{answer_to_otp_set, due_otp_set}
use Rattle.admin_asks.specs.RealmPut.{check_realm, answer_to_realm, due_realm_put}
use Rattle.admin_asks.specs.Require.{answer_to_require, due_require}
use Rattle.admin_asks.specs.Roles.{check_made, answer_to_roles, due_roles}
use Rattle.admin_asks.specs.SetPassword.{answer_to_set_password, due_set_password}
use Rattle.admin_asks.specs.Token.{check_holder, answer_to_token, due_token}
use Rattle.admin_asks.specs.UserAdd.{check_new_user, answer_to_new_user, due_user_add}
use Rattle.login_hall.specs.Due.{due_ask}
use Rattle.web_laws.specs.Plain.{is_plain_text, next_has_plain_texts, has_plain_texts}
use Rattle.web_laws.specs.Told.{verb_has_name, tells_name}
use Rattle.web_laws.proofs.OfferLemmas.{shown_for_plain}
use Rattle.web_laws.proofs.PlainLemmas.{labelled, plain_name, plain_id, plain_number}

abbrev pub HasPlain : Answer → Type 0
HasPlain answer = has_plain_texts answer.reply.what ≡ true

-- ---- refusals

refusal_plain : (facts : List Fact) (refusal : Refusal) → has_plain_texts (what_of facts refusal) ≡ true
refusal_plain facts refusals.WrongKey = refl
refusal_plain facts refusals.UserTaken = refl
refusal_plain facts refusals.TooManyUsers = refl
refusal_plain facts refusals.NoSuchUser = refl
refusal_plain facts refusals.NothingThere = refl
refusal_plain facts refusals.AccountDisabled = refl
refusal_plain facts refusals.RealmRefused = refl
refusal_plain facts refusals.TooManyTokens = refl
refusal_plain facts refusals.NoSuchSession = refl
refusal_plain facts refusals.UnknownClient = refl
refusal_plain facts refusals.LevelUnknown = refl
refusal_plain facts refusals.TooManyRoots = refl
refusal_plain facts (refusals.TooManyTabs count) = refl
refusal_plain facts refusals.UnknownTab = refl
refusal_plain facts refusals.TabExpired = refl
refusal_plain facts (refusals.Stale current) = refl
refusal_plain facts (refusals.OtherUser tab session) = refl
refusal_plain facts refusals.Finished = refl
refusal_plain facts refusals.NotAsked = refl
refusal_plain facts (refusals.Locked until) = refl
refusal_plain facts refusals.Disabled = refl
refusal_plain facts (refusals.CredentialMoved had now) = refl
refusal_plain facts refusals.TokenUnknown = refl
refusal_plain facts refusals.TokenSpent = refl
refusal_plain facts (refusals.TokenExpired expiry) = refl

settled_plain : {A : Type 0} (facts : List Fact) (tab : Option TabKey) (answer : A → Answer) (found : Result A Refusal) → ((x : A) → HasPlain (answer x)) → HasPlain (settled facts tab answer found)
settled_plain facts tab answer (Ok x) plain = plain x
settled_plain facts tab answer (Err refusal) plain = refusal_plain facts refusal

-- ---- pages

under_plain : (realm : Option RealmParts) (action : Action) (offer : List ℕ) → list_all is_plain_text (shown_under realm action offer) ≡ true
under_plain None action offer = refl
under_plain (Some realm) action offer = shown_for_plain action offer realm.recovery_count

shown_plain : (facts : List Fact) (known : KnownTab) (action : Action) (offer : List ℕ) → list_all is_plain_text (shown_in facts known action offer) ≡ true
unfolding shown_in
shown_plain facts known action offer = under_plain (realm_of known.opening.version facts) action offer

progress_plain : (facts : List Fact) (setting : Setting) (known : KnownTab) (progress : Progress) → HasPlain (progress_answer facts setting known progress)
unfolding progress_answer completion
progress_plain facts setting known (progresses.Ready user levels) = refl
progress_plain facts setting known (progresses.Asked asked) = refl
progress_plain facts setting known (progresses.Denied execution) = refl
progress_plain facts setting known (progresses.NotConfigured execution) = refl
progress_plain facts setting known progresses.DeadEnd = refl
progress_plain facts setting known (progresses.LevelMissed level) = refl
progress_plain facts setting known (progresses.Required user action) = shown_plain facts known action (offer_for known.state.page action setting.draws)

tab_plain : (facts : List Fact) (setting : Setting) (known : KnownTab) → HasPlain (tab_answer facts setting known)
unfolding tab_answer
tab_plain facts setting known = progress_plain facts setting known (progress_of facts setting.moment known)

visit_plain : (facts : List Fact) (setting : Setting) (known : KnownTab) → HasPlain (visit_answer facts setting known)
unfolding visit_answer
visit_plain facts setting known = settled_plain facts (Some known.tab) (tab_answer_then facts setting known) (check_visit facts setting.moment known) (λ may. tab_plain facts setting known)

page_plain : (setting : Setting) (root : Option RootKey) (tab : TabKey) → HasPlain (due_page setting root tab)
unfolding due_page
page_plain setting root tab = settled_plain setting.facts None (visit_answer setting.facts setting) (check_tab setting.facts setting.moment root tab) (visit_plain setting.facts setting)

new_tab_plain : (setting : Setting) (new : NewTab) → HasPlain (due_new_tab setting new)
unfolding due_new_tab new_tab_answer
new_tab_plain setting new =
    settled_plain setting.facts None (new_tab_answer setting) (check_new_tab setting new)
    (λ place. visit_plain (facts_opened setting place) setting (tab_opened (facts_opened setting place) setting place))

-- ---- posts

next_plain : (setting : Setting) (known : KnownTab) (progress : Progress) → next_has_plain_texts (next_page setting known progress) ≡ true
next_plain setting known (progresses.Ready user levels) = refl
next_plain setting known (progresses.Asked asked) = refl
next_plain setting known (progresses.Denied execution) = refl
next_plain setting known (progresses.NotConfigured execution) = refl
next_plain setting known progresses.DeadEnd = refl
next_plain setting known (progresses.LevelMissed level) = refl
next_plain setting known (progresses.Required user action) = shown_plain setting.facts known action (offer_for known.state.page action setting.draws)

check_plain : (setting : Setting) (known : KnownTab) (progress : Progress) (form : Form) (finding : Finding) (check : Check) → HasPlain (answer_to_check setting known progress form finding check)
unfolding answer_to_check answer_to_accepted
check_plain setting known progress form finding (checks.Fits user credential) =
    let more = setting.facts ++ accepted_facts setting known form finding user credential in
    tab_plain more setting (known_over known more)
check_plain setting known progress form finding (checks.Wrong user) = next_plain setting known progress
check_plain setting known progress form finding (checks.WrongCode user) = next_plain setting known progress
check_plain setting known progress form finding (checks.SpentCode step) = next_plain setting known progress

where_plain : (setting : Setting) (form : Form) (finding : Finding) (known : KnownTab) (named : Option UserId) (progress : Progress) → HasPlain (post_where setting form finding known named progress)
unfolding post_where
where_plain setting form finding known named progress =
    settled_plain setting.facts (Some known.tab) (answer_to_check setting known progress form finding) (check_form setting known progress named form finding) (check_plain setting known progress form finding)

in_plain : (setting : Setting) (post : Post) (finding : Finding) (known : KnownTab) → HasPlain (post_in setting post finding known)
unfolding post_in
in_plain setting post finding known =
    settled_plain setting.facts (Some known.tab) (post_by setting post.form finding known) (check_post setting.facts setting.moment known post)
    (λ named. where_plain setting post.form finding known named (progress_of setting.facts setting.moment known))

post_plain : (setting : Setting) (post : Post) (finding : Finding) → HasPlain (due_post setting post finding)
unfolding due_post
post_plain setting post finding = settled_plain setting.facts None (post_in setting post finding) (check_tab setting.facts setting.moment post.root post.tab) (in_plain setting post finding)

-- ---- tokens and logouts

verify_plain : (setting : Setting) (key : TokenKey) → HasPlain (due_verify setting key)
unfolding due_verify
verify_plain setting key = settled_plain setting.facts None (answer_to_verify setting key) (check_token setting.facts setting.moment key _) (λ user. refl)

reset_plain : (setting : Setting) (key : TokenKey) (finding : Finding) → HasPlain (due_reset setting key finding)
unfolding due_reset
reset_plain setting key finding = settled_plain setting.facts None (answer_to_reset setting key finding) (check_token setting.facts setting.moment key _) (λ user. refl)

logout_plain : (setting : Setting) (root : Option RootKey) → HasPlain (due_logout setting root)
unfolding due_logout
logout_plain setting root = refl

-- ---- administrators

verb_plain : (setting : Setting) (verb : AdminVerb) (finding : Finding) → verb_has_name verb ≡ true → HasPlain (due_verb setting verb finding)
unfolding due_realm_put due_user_add due_roles due_set_password due_otp_set due_otp_remove due_require due_enable due_disable due_unlock due_token due_revoke due_sweep
verb_plain setting (verbs.RealmPut realm) finding e = settled_plain setting.facts None (answer_to_realm setting.facts) (check_realm realm) (λ put. plain_number _)
verb_plain setting (verbs.UserAdd new) finding e =
    settled_plain setting.facts None (answer_to_new_user new finding) (check_new_user setting.facts new)
    (λ user. labelled (codes "user name=" ++ new.name) (codes " id=") (decimal user.0) (plain_name new.name e) refl (plain_number user.0))
verb_plain setting (verbs.Roles name roles) finding e = settled_plain setting.facts None (answer_to_roles name roles) (check_made setting.facts name) (λ user. plain_name name e)
verb_plain setting (verbs.SetPassword name password) finding e =
    settled_plain setting.facts None (answer_to_set_password setting.facts name finding) (check_user setting.facts name) (λ user. plain_name name e)
verb_plain setting (verbs.OtpSet name secret) finding e = settled_plain setting.facts None (answer_to_otp_set setting.facts name secret) (check_user setting.facts name) (λ user. plain_name name e)
verb_plain setting (verbs.OtpRemove name) finding e = settled_plain setting.facts None (answer_to_otp_remove name) (check_there setting.facts name) (λ user. plain_name name e)
verb_plain setting (verbs.Require name action) finding e = settled_plain setting.facts None (answer_to_require name action) (check_user setting.facts name) (λ user. plain_name name e)
verb_plain setting (verbs.Enable name) finding e = settled_plain setting.facts None (answer_to_enable name) (check_user setting.facts name) (λ user. plain_name name e)
verb_plain setting (verbs.Disable name) finding e = settled_plain setting.facts None (answer_to_disable name) (check_user setting.facts name) (λ user. plain_name name e)
verb_plain setting (verbs.Unlock name) finding e = settled_plain setting.facts None (answer_to_enable name) (check_open setting.facts name) (λ user. plain_name name e)
verb_plain setting (verbs.Token name action life) finding e =
    settled_plain setting.facts None (answer_to_token setting action life) (check_holder setting.facts name) (λ user. plain_id (next_token setting.facts setting.draws).0)
verb_plain setting (verbs.Revoke session) finding e = settled_plain setting.facts None (answer_to_revoke session) (check_session setting.facts session) (λ there. plain_id session.0)
verb_plain setting verbs.Sweep finding e = plain_number (length (outlived_ids setting.moment setting.facts))

admin_plain : (setting : Setting) (access : Access) (verb : AdminVerb) (finding : Finding) → verb_has_name verb ≡ true → HasPlain (due_admin setting access verb finding)
unfolding due_admin
admin_plain setting access verb finding e = settled_plain setting.facts None (verb_with setting verb finding) (check_key setting.realm access) (λ key. verb_plain setting verb finding e)

pub ask_plain : (setting : Setting) (ask : Ask) (finding : Finding) → tells_name ask ≡ true → HasPlain (due_ask setting ask finding)
ask_plain setting (asks.Bad at) finding e = refl
ask_plain setting (asks.NewTab new) finding e = new_tab_plain setting new
ask_plain setting (asks.Page root tab) finding e = page_plain setting root tab
ask_plain setting (asks.Post post) finding e = post_plain setting post finding
ask_plain setting (asks.Verify key) finding e = verify_plain setting key
ask_plain setting (asks.Reset key password) finding e = reset_plain setting key finding
ask_plain setting (asks.Logout root) finding e = logout_plain setting root
ask_plain setting (asks.Admin access verb) finding e = admin_plain setting access verb finding e
