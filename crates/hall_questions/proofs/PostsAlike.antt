-- What a post is due, where lists of facts answer alike.
use Rattle.std.proofs.Common.{◌≡◌, ℕ, ◌+◌, Bool, true, false, List, ◌++◌, Option, Some, None, refl, ap, ◌∙◌}
use Rattle.std.specs.Prelude.{if◌then◌else◌}
use Rattle.login_base.specs.declared.draws.Draws.{Draws}
use Rattle.login_base.specs.declared.id.UserId.{UserId}
use Rattle.realm_data.specs.declared.action.Action.{Action}
use Rattle.realm_data.specs.declared.realm_parts.RealmParts.{RealmParts}
use Rattle.asks.specs.declared.ask.Form.{Form}
use Rattle.asks.specs.declared.ask.Form.TheVariants as forms
use Rattle.asks.specs.declared.ask.Post.{Post}
use Rattle.asks.specs.declared.finding.Finding.{Finding}
use Rattle.asks.specs.declared.reply.Need.{Need}
use Rattle.facts.specs.declared.fact.Fact.{Fact}
use Rattle.facts.specs.declared.tabs.Page.{Page}
use Rattle.facts.specs.declared.user_password.UserPassword.{UserPassword}
use Rattle.facts.specs.Realms.{realm_of}
use Rattle.facts.specs.Secrets.{KeptOtp, KeptRecovery, otp_of, recovery_of}
use Rattle.facts.specs.Serials.{last_stored_serial}
use Rattle.facts.specs.Tabs.{who_of}
use Rattle.hall_answers.specs.declared.answer.Answer.{Answer}
use Rattle.hall_answers.specs.Answers.{after_facts}
use Rattle.hall_answers.specs.Setting.{Setting}
use Rattle.login_progress.specs.declared.known_tab.KnownTab.{KnownTab}
use Rattle.login_progress.specs.declared.progress.Progress.{Progress}
use Rattle.login_progress.specs.declared.progress.Progress.TheVariants as progresses
use Rattle.login_progress.specs.PasswordFor.{password_for}
use Rattle.login_progress.specs.Progress.{progress_of, asked_in, action_in}
use Rattle.tab_pages.specs.Offering.{offer_for}
use Rattle.tab_pages.specs.Pages.{tab_answer}
use Rattle.tab_pages.specs.Visit.{check_tab}
use Rattle.tab_asks.specs.declared.check.Check.{Check}
use Rattle.tab_asks.specs.declared.check.Check.TheVariants as checks
use Rattle.tab_asks.specs.declared.check.Credential.{Credential}
use Rattle.tab_asks.specs.declared.check.Spent.{Spent}
use Rattle.tab_asks.specs.declared.check.Spent.TheVariants as spends
use Rattle.tab_asks.specs.Codes.{otp_check, recovery_check, asks_recovery, code_check}
use Rattle.tab_asks.specs.Deeds.{setup_check, codes_under, deed_facts}
use Rattle.tab_asks.specs.Forms.{named_by, target_of, concerned}
use Rattle.tab_asks.specs.Post.{check_post, check_with, check_form, known_over, accepted_facts, answer_to_accepted, next_page, page_again, shown_again, answer_to_check, post_where, post_by, post_in, due_post}
use Rattle.hall_questions.specs.Questions.{AnswerAlike}
use Rattle.hall_questions.proofs.GrowingAnswers.{grows}
use Rattle.hall_questions.proofs.PagesAlike.{tab_alike, account_alike, shown_alike, tab_answer_alike}
use Rattle.hall_questions.proofs.ProgressAlike.{progress_alike}
use Rattle.hall_questions.proofs.Shared.{under, settled_alike}

module _ (one other : List Fact) (alike : AnswerAlike one other) where
  -- the user whom a form names, and the password of one
  pub named_alike : (form : Form) → named_by one form ≡ named_by other form
  named_alike (forms.Username execution name) = alike.named name
  named_alike (forms.NamePassword execution name password) = alike.named name
  named_alike form = refl

  pub password_alike : (who : Option UserId) → password_for one who ≡ password_for other who
  unfolding password_for
  password_alike None = refl
  password_alike (Some user) = alike.password user

  post_gate : (moment : ℕ) (known : KnownTab) (post : Post) → check_post one moment known post ≡ check_post other moment known post
  unfolding check_post
  post_gate moment known post = rw (named_alike post.form) refl

module _ (one other : List Fact) (alike : AnswerAlike one other) (realm : RealmParts) (moment : ℕ) (draws : Draws) where
  abbrev first : Setting
  first = under realm moment draws one

  abbrev second : Setting
  second = under realm moment draws other

  -- ---- the check

  otp_alike : (user : UserId) (kept : Option KeptOtp) (value : List ℕ) → otp_check first user kept value ≡ otp_check second user kept value
  otp_alike user None value = refl
  otp_alike user (Some kept) value = rw (alike.steps kept.serial) refl

  recovery_alike : (user : UserId) (kept : Option KeptRecovery) (value : List ℕ) → recovery_check first user kept value ≡ recovery_check second user kept value
  recovery_alike user None value = refl
  recovery_alike user (Some kept) value = rw (alike.codes kept.serial) refl

  abbrev code_of : Setting → UserId → List ℕ → Bool → Check
  code_of setting user value recovers =
      if recovers then recovery_check setting user (recovery_of user setting.facts) value else otp_check setting user (otp_of user setting.facts) value

  code_of_alike : (user : UserId) (value : List ℕ) (recovers : Bool) → code_of first user value recovers ≡ code_of second user value recovers
  code_of_alike user value true =
      ap (λ (kept : Option KeptRecovery). recovery_check first user kept value) (alike.recovery user) ∙ recovery_alike user (recovery_of user other) value
  code_of_alike user value false =
      ap (λ (kept : Option KeptOtp). otp_check first user kept value) (alike.otp user) ∙ otp_alike user (otp_of user other) value

  code_alike : (asked : List Need) (who : Option UserId) (execution value : List ℕ) → code_check first asked who execution value ≡ code_check second asked who execution value
  unfolding code_check
  code_alike asked None execution value = refl
  code_alike asked (Some user) execution value = code_of_alike user value (asks_recovery asked execution)

  setup_alike : (page : Option Page) (who : Option UserId) (value : List ℕ) → setup_check first page who value ≡ setup_check second page who value
  setup_alike page None value = refl
  setup_alike page (Some user) value = rw (alike.stored_serial, alike.steps (last_stored_serial other + 1)) refl

  with_alike : (known : KnownTab) (asked : List Need) (named who : Option UserId) (password : Option UserPassword) (form : Form) (finding : Finding)
      → check_with first known asked named who password form finding ≡ check_with second known asked named who password form finding
  with_alike known asked named who password (forms.Value execution value) finding = code_alike asked who execution value
  with_alike known asked named who password (forms.ConfigureOtp value) finding = setup_alike known.state.page who value
  with_alike known asked named who password form finding = refl

  form_gate : (known : KnownTab) (progress : Progress) (named : Option UserId) (form : Form) (finding : Finding)
      → check_form first known progress named form finding ≡ check_form second known progress named form finding
  unfolding check_form
  form_gate known progress named form finding =
      let who = who_of moment known.state in
      let target = target_of named who form in
      rw (
        password_alike one other alike target,
        account_alike one other alike moment (concerned named who),
        with_alike known (asked_in progress) named who (password_for other target) form finding,
      )
      refl

  -- ---- the page again

  next_alike : (known : KnownTab) (progress : Progress) → next_page first known progress ≡ next_page second known progress
  next_alike known (progresses.Required user action) =
      rw (alike.tab_serial, shown_alike one other alike known action (offer_for known.state.page action draws)) refl
  next_alike known progress = rw (alike.tab_serial) refl

  again_alike : (known : KnownTab) (action : Option Action) → page_again first known action ≡ page_again second known action
  again_alike known None = rw (alike.tab_serial) refl
  again_alike known (Some action) = rw (alike.tab_serial) refl

  shown_again_alike : (known : KnownTab) (action : Option Action) (user : Option UserId) → shown_again first known action user ≡ shown_again second known action user
  shown_again_alike known action user = rw (again_alike known action) refl

  -- ---- what is accepted

  codes_alike : (known : KnownTab) (user : UserId) (own : Option RealmParts) → codes_under own first known user ≡ codes_under own second known user
  codes_alike known user None = refl
  codes_alike known user (Some own) = rw (alike.stored_serial) refl

  deed_alike : (known : KnownTab) (form : Form) (finding : Finding) (user : UserId) (spent : Spent)
      → deed_facts first known form finding user spent ≡ deed_facts second known form finding user spent
  deed_alike known (forms.UpdatePassword password) finding user spent = rw (alike.stored_serial) refl
  deed_alike known (forms.ConfigureOtp value) finding user spends.Nothing = rw (alike.stored_serial) refl
  deed_alike known (forms.ConfigureOtp value) finding user (spends.Step step) = rw (alike.stored_serial) refl
  deed_alike known (forms.ConfigureOtp value) finding user (spends.Number number) = rw (alike.stored_serial) refl
  deed_alike known forms.RecoveryCodes finding user spent =
      rw (alike.realm_of known.opening.version, codes_alike known user (realm_of known.opening.version other)) refl
  deed_alike known form finding user spent = refl

  accepted_alike : (known : KnownTab) (form : Form) (finding : Finding) (user : UserId) (credential : Credential)
      → accepted_facts first known form finding user credential ≡ accepted_facts second known form finding user credential
  accepted_alike known form finding user credential = rw (deed_alike known form finding user credential.spent) refl

  abbrev accepted_with : Setting → KnownTab → List Fact → Answer
  accepted_with setting known accepted =
      after_facts accepted (tab_answer (setting.facts ++ accepted) setting (known_over known (setting.facts ++ accepted)))

  over_alike : (known : KnownTab) (accepted : List Fact) → known_over known (one ++ accepted) ≡ known_over known (other ++ accepted)
  over_alike known accepted = rw ((grows one other accepted alike).tab known.root known.tab) refl

  answered_alike : (known : KnownTab) (accepted : List Fact) → accepted_with first known accepted ≡ accepted_with second known accepted
  answered_alike known accepted =
      let grown = grows one other accepted alike in
      ap (λ (known : KnownTab). after_facts accepted (tab_answer (one ++ accepted) first known)) (over_alike known accepted)
      ∙ ap (after_facts accepted) (tab_answer_alike (one ++ accepted) (other ++ accepted) grown one other realm moment draws (known_over known (other ++ accepted)))

  to_accepted_alike : (known : KnownTab) (form : Form) (finding : Finding) (user : UserId) (credential : Credential)
      → answer_to_accepted first known form finding user credential ≡ answer_to_accepted second known form finding user credential
  unfolding answer_to_accepted
  to_accepted_alike known form finding user credential =
      ap (accepted_with first known) (accepted_alike known form finding user credential)
      ∙ answered_alike known (accepted_facts second known form finding user credential)

  -- ---- all together

  to_check_alike : (known : KnownTab) (progress : Progress) (form : Form) (finding : Finding) (check : Check)
      → answer_to_check first known progress form finding check ≡ answer_to_check second known progress form finding check
  unfolding answer_to_check
  to_check_alike known progress form finding (checks.Fits user credential) = to_accepted_alike known form finding user credential
  to_check_alike known progress form finding (checks.Wrong user) =
      rw (next_alike known progress, shown_again_alike known (action_in progress) user) refl
  to_check_alike known progress form finding (checks.WrongCode user) =
      rw (next_alike known progress, shown_again_alike known (action_in progress) user) refl
  to_check_alike known progress form finding (checks.SpentCode step) =
      rw (next_alike known progress, shown_again_alike known (action_in progress) None) refl

  where_alike : (form : Form) (finding : Finding) (known : KnownTab) (named : Option UserId) (progress : Progress)
      → post_where first form finding known named progress ≡ post_where second form finding known named progress
  unfolding post_where
  where_alike form finding known named progress =
      settled_alike one other alike (Some known.tab) (answer_to_check first known progress form finding) (answer_to_check second known progress form finding)
      (check_form first known progress named form finding) (check_form second known progress named form finding)
      (to_check_alike known progress form finding) (form_gate known progress named form finding)

  by_alike : (form : Form) (finding : Finding) (known : KnownTab) (named : Option UserId) → post_by first form finding known named ≡ post_by second form finding known named
  by_alike form finding known named =
      ap (post_where first form finding known named) (progress_alike one other alike moment known)
      ∙ where_alike form finding known named (progress_of other moment known)

  in_alike : (post : Post) (finding : Finding) (known : KnownTab) → post_in first post finding known ≡ post_in second post finding known
  unfolding post_in
  in_alike post finding known =
      settled_alike one other alike (Some known.tab) (post_by first post.form finding known) (post_by second post.form finding known)
      (check_post one moment known post) (check_post other moment known post) (by_alike post.form finding known) (post_gate one other alike moment known post)

  pub post_alike : (post : Post) (finding : Finding) → due_post first post finding ≡ due_post second post finding
  unfolding due_post
  post_alike post finding =
      settled_alike one other alike None (post_in first post finding) (post_in second post finding) (check_tab one moment post.root post.tab)
      (check_tab other moment post.root post.tab) (in_alike post finding) (tab_alike one other alike moment post.root post.tab)
