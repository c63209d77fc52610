-- The check of a password finds the same over lists of facts that answer alike.
use Rattle.std.proofs.Common.{◌≡◌, ℕ, List, Some, None, refl, ap, ◌∙◌}
use Rattle.std.specs.Prelude.{Option}
use Rattle.login_base.specs.declared.draws.Draws.{Draws}
use Rattle.login_base.specs.declared.id.RootKey.{RootKey}
use Rattle.login_base.specs.declared.id.TabKey.{TabKey}
use Rattle.login_base.specs.declared.id.UserId.{UserId}
use Rattle.realm_data.specs.declared.realm_parts.RealmParts.{RealmParts}
use Rattle.asks.specs.declared.ask.Ask.{Ask}
use Rattle.asks.specs.declared.ask.Ask.TheVariants as asks
use Rattle.asks.specs.declared.ask.Form.{Form}
use Rattle.asks.specs.Passwords.{password_use, password_text}
use Rattle.facts.specs.declared.fact.Fact.{Fact}
use Rattle.facts.specs.declared.tabs.TabState.{TabState}
use Rattle.facts.specs.declared.user_password.UserPassword.{UserPassword}
use Rattle.hall_answers.specs.Setting.{realm_now}
use Rattle.login_progress.specs.PasswordFor.{password_for}
use Rattle.tab_asks.specs.Forms.{named_by, target_of}
use Rattle.login_hall.specs.Found.{who_among, who_in, form_target, checked_user, target_password, task_for, finding_for, found}
use Rattle.hall_questions.specs.Questions.{AnswerAlike}
use Rattle.hall_questions.proofs.PostsAlike.{named_alike, password_alike}
use Rattle.hall_questions.proofs.Shared.{realm_alike}

module _ (one other : List Fact) (alike : AnswerAlike one other) where
  who_in_alike : (moment : ℕ) (root : Option RootKey) (tab : TabKey) → who_in one moment root tab ≡ who_in other moment root tab
  who_in_alike moment (Some root) tab = ap (λ (state : TabState). who_among moment state state.opening) (alike.tab root tab)
  who_in_alike moment None tab = refl

  form_target_alike : (moment : ℕ) (root : Option RootKey) (tab : TabKey) (form : Form)
      → form_target one moment root tab form ≡ form_target other moment root tab form
  form_target_alike moment root tab form =
      ap (λ (named : Option UserId). target_of named (who_in one moment root tab) form) (named_alike one other alike form)
      ∙ ap (λ (who : Option UserId). target_of (named_by other form) who form) (who_in_alike moment root tab)

  checked_user_alike : (moment : ℕ) (ask : Ask) → checked_user one moment ask ≡ checked_user other moment ask
  unfolding checked_user
  checked_user_alike moment (asks.Post post) = form_target_alike moment post.root post.tab post.form
  checked_user_alike moment (asks.Bad at) = refl
  checked_user_alike moment (asks.NewTab new) = refl
  checked_user_alike moment (asks.Page root tab) = refl
  checked_user_alike moment (asks.Verify key) = refl
  checked_user_alike moment (asks.Reset key password) = refl
  checked_user_alike moment (asks.Logout root) = refl
  checked_user_alike moment (asks.Admin access verb) = refl

  target_password_alike : (moment : ℕ) (ask : Ask) → target_password one moment ask ≡ target_password other moment ask
  target_password_alike moment ask = ap (password_for one) (checked_user_alike moment ask) ∙ password_alike one other alike (checked_user other moment ask)

  pub found_alike : (moment : ℕ) (ask : Ask) (draws : Draws) → found one moment ask draws ≡ found other moment ask draws
  unfolding found
  found_alike moment ask draws =
      ap (λ (target : Option UserPassword). finding_for (task_for (password_use ask) target (realm_now one).iterations draws) (password_text ask))
      (target_password_alike moment ask)
      ∙ ap (λ (realm : RealmParts). finding_for (task_for (password_use ask) (target_password other moment ask) realm.iterations draws) (password_text ask))
      (realm_alike one other alike)
