-- A check of a password counts only where nothing else refuses.
use Rattle.std.proofs.Common.{◌≡◌, ℕ, Bool, true, false, List, Some, None, Ok, Err, refl, sym, ap, ◌∙◌, inl, inr}
use Rattle.std.specs.Prelude.{Option, Result, ◌⊎◌}
use Rattle.login_base.specs.declared.id.UserId.{UserId}
use Rattle.asks.specs.declared.ask.Form.{Form}
use Rattle.asks.specs.declared.ask.Form.TheVariants as forms
use Rattle.asks.specs.declared.ask.Post.{Post}
use Rattle.asks.specs.declared.finding.Finding.TheVariants.{Checked}
use Rattle.asks.specs.declared.reply.Need.{Need}
use Rattle.facts.specs.declared.user_password.UserPassword.{UserPassword}
use Rattle.facts.specs.Tabs.{who_of}
use Rattle.hall_answers.specs.declared.refusal.Refusal.{Refusal}
use Rattle.hall_answers.specs.declared.answer.Answer.{Answer}
use Rattle.hall_answers.specs.Refusals.{◌>>=◌, settled}
use Rattle.hall_answers.specs.Setting.{Setting}
use Rattle.login_progress.specs.declared.known_tab.KnownTab.{KnownTab}
use Rattle.login_progress.specs.PasswordFor.{password_for}
use Rattle.tab_asks.specs.declared.check.Check.{Check}
use Rattle.tab_asks.specs.declared.check.Check.TheVariants as checks
use Rattle.login_progress.specs.declared.progress.Progress.{Progress}
use Rattle.login_progress.specs.Progress.{asked_in}
use Rattle.tab_asks.specs.Codes.{code_check}
use Rattle.tab_asks.specs.Deeds.{deed_check, setup_check}
use Rattle.tab_asks.specs.Forms.{target_of, concerned}
use Rattle.tab_asks.specs.Post.{check_post, check_form, check_asked, check_credential, check_with, name_check, password_check, answer_to_check, post_where, post_in, due_post}
use Rattle.tab_pages.specs.Visit.{check_tab, check_account}
use Rattle.hall_laws.specs.Ready.{IsAccepted, progress_at}

-- ---- what a check comes to, with a password that fits and with one that doesn't

-- the fitting one passes, or both come to the same
abbrev Same : Check → Check → Type 0
Same (checks.Fits user credential) other = Unit {0}
Same (checks.Wrong user) other = other ≡ checks.Wrong user
Same (checks.WrongCode user) other = other ≡ checks.WrongCode user
Same (checks.SpentCode step) other = other ≡ checks.SpentCode step

-- what doesn't ask the finding comes to the same
alike : (check : Check) → Same check check
alike (checks.Fits user credential) = tt
alike (checks.Wrong user) = refl
alike (checks.WrongCode user) = refl
alike (checks.SpentCode step) = refl

same_password : (target : Option UserId) (password : Option UserPassword) (had : ℕ) → Same (password_check target password (Checked had true)) (password_check target password (Checked had false))
unfolding password_check
same_password None password had = refl
same_password (Some user) None had = refl
same_password (Some user) (Some kept) had = tt

same_check : (setting : Setting) (known : KnownTab) (asked : List Need) (named who : Option UserId) (password : Option UserPassword) (form : Form) (had : ℕ)
    → Same (check_with setting known asked named who password form (Checked had true)) (check_with setting known asked named who password form (Checked had false))
same_check setting known asked named who password (forms.Username execution name) had = alike (name_check named)
same_check setting known asked named who password (forms.Password execution given) had = same_password who password had
same_check setting known asked named who password (forms.NamePassword execution name given) had = same_password named password had
same_check setting known asked named who password (forms.Value execution value) had = alike (code_check setting asked who execution value)
same_check setting known asked named who password forms.Terms had = alike (deed_check who)
same_check setting known asked named who password (forms.UpdatePassword given) had = alike (deed_check who)
same_check setting known asked named who password (forms.ConfigureOtp value) had = alike (setup_check setting known.state.page who value)
same_check setting known asked named who password forms.RecoveryCodes had = alike (deed_check who)
same_check setting known asked named who password forms.VerifyEmail had = refl

-- ---- the same behind what may refuse

abbrev Sames : Result Check Refusal → Result Check Refusal → Type 0
Sames (Ok (checks.Fits user credential)) other = Unit {0}
Sames (Ok (checks.Wrong user)) other = other ≡ Ok (checks.Wrong user)
Sames (Ok (checks.WrongCode user)) other = other ≡ Ok (checks.WrongCode user)
Sames (Ok (checks.SpentCode step)) other = other ≡ Ok (checks.SpentCode step)
Sames (Err refusal) other = other ≡ Err refusal

same_ok : (one other : Check) → Same one other → Sames (Ok one) (Ok other)
same_ok (checks.Fits user credential) other h = tt
same_ok (checks.Wrong user) other h = ap Ok h
same_ok (checks.WrongCode user) other h = ap Ok h
same_ok (checks.SpentCode step) other h = ap Ok h

same_behind : (first : Result (Unit {0}) Refusal) (one other : Unit {0} → Result Check Refusal) → Sames (one tt) (other tt) → Sames (first >>= one) (first >>= other)
same_behind (Ok u) one other h = h
same_behind (Err refusal) one other h = refl

same_form : (setting : Setting) (known : KnownTab) (progress : Progress) (named : Option UserId) (form : Form) (had : ℕ)
    → Sames (check_form setting known progress named form (Checked had true)) (check_form setting known progress named form (Checked had false))
unfolding check_form check_credential
same_form setting known progress named form had =
    let who = who_of setting.moment known.state in
    let password = password_for setting.facts (target_of named who form) in
    same_behind (check_asked progress known.state.page form) _ _
    (same_behind (check_account setting.facts setting.moment (concerned named who)) _ _
    (same_behind (check_credential password (Checked had true)) _ _ (same_ok _ _ (same_check setting known (asked_in progress) named who password form had))))

-- ---- the post

module _ (setting : Setting) (post : Post) (had : ℕ) where
  abbrev form_check : Bool → KnownTab → Option UserId → Result Check Refusal
  form_check fits known named = check_form setting known (progress_at setting known) named post.form (Checked had fits)

  -- the answer by what the form's check comes to
  abbrev by_check : Bool → KnownTab → Result Check Refusal → Answer
  by_check fits known check = settled setting.facts (Some known.tab) (answer_to_check setting known (progress_at setting known) post.form (Checked had fits)) check

  due_by : (fits : Bool) (known : KnownTab) (named : Option UserId) → check_tab setting.facts setting.moment post.root post.tab ≡ Ok known
      → check_post setting.facts setting.moment known post ≡ Ok named → due_post setting post (Checked had fits) ≡ by_check fits known (form_check fits known named)
  unfolding due_post post_in post_where
  due_by fits known named is_known is_named = rw (is_known, is_named) refl

  abbrev Counts : Type 0
  Counts = IsAccepted setting post (Checked had true) ⊎ (due_post setting post (Checked had true) ≡ due_post setting post (Checked had false))

  form_counts : (known : KnownTab) (named : Option UserId) (check : Result Check Refusal) → check_tab setting.facts setting.moment post.root post.tab ≡ Ok known
      → check_post setting.facts setting.moment known post ≡ Ok named → form_check true known named ≡ check → Sames check (form_check false known named) → Counts
  unfolding answer_to_check
  form_counts known named (Ok (checks.Fits user credential)) is_known is_named fits same =
      inl (record { known = known; is_known = is_known; named = named; is_named = is_named; user = user; credential = credential; fits = fits })
  form_counts known named (Ok (checks.Wrong user)) is_known is_named fits same =
      inr (due_by true known named is_known is_named ∙ ap (by_check true known) fits ∙ ap (by_check false known) (sym same) ∙ sym (due_by false known named is_known is_named))
  form_counts known named (Ok (checks.WrongCode user)) is_known is_named fits same =
      inr (due_by true known named is_known is_named ∙ ap (by_check true known) fits ∙ ap (by_check false known) (sym same) ∙ sym (due_by false known named is_known is_named))
  form_counts known named (Ok (checks.SpentCode step)) is_known is_named fits same =
      inr (due_by true known named is_known is_named ∙ ap (by_check true known) fits ∙ ap (by_check false known) (sym same) ∙ sym (due_by false known named is_known is_named))
  form_counts known named (Err refusal) is_known is_named fits same =
      inr (due_by true known named is_known is_named ∙ ap (by_check true known) fits ∙ ap (by_check false known) (sym same) ∙ sym (due_by false known named is_known is_named))

  named_counts : (known : KnownTab) (named : Result (Option UserId) Refusal) → check_tab setting.facts setting.moment post.root post.tab ≡ Ok known
      → check_post setting.facts setting.moment known post ≡ named → Counts
  unfolding due_post post_in
  named_counts known (Ok named) is_known is_named =
      form_counts known named (form_check true known named) is_known is_named refl (same_form setting known (progress_at setting known) named post.form had)
  named_counts known (Err refusal) is_known is_named = inr (rw (is_known, is_named) refl)

  known_counts : (known : Result KnownTab Refusal) → check_tab setting.facts setting.moment post.root post.tab ≡ known → Counts
  unfolding due_post
  known_counts (Ok known) is_known = named_counts known (check_post setting.facts setting.moment known post) is_known refl
  known_counts (Err refusal) is_known = inr (rw is_known refl)

  pub check_counts : Counts
  check_counts = known_counts (check_tab setting.facts setting.moment post.root post.tab) refl
