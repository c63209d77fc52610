-- What an ask is due, where lists of facts answer alike.
use Rattle.std.proofs.Common.{◌≡◌, ℕ, List, refl, ap, ◌∙◌}
use Rattle.login_base.specs.declared.draws.Draws.{Draws}
use Rattle.realm_data.specs.declared.realm_parts.RealmParts.{RealmParts}
use Rattle.asks.specs.declared.ask.Ask.{Ask}
use Rattle.asks.specs.declared.ask.Ask.TheVariants as asks
use Rattle.asks.specs.declared.finding.Finding.{Finding}
use Rattle.facts.specs.declared.fact.Fact.{Fact}
use Rattle.hall_answers.specs.Setting.{realm_now, setting_at}
use Rattle.login_hall.specs.Due.{due_ask}
use Rattle.hall_questions.specs.Questions.{AnswerAlike}
use Rattle.hall_questions.proofs.AdminsAlike.{admin_alike}
use Rattle.hall_questions.proofs.OpensAlike.{new_tab_alike, logout_alike}
use Rattle.hall_questions.proofs.PagesAlike.{page_alike}
use Rattle.hall_questions.proofs.PostsAlike.{post_alike}
use Rattle.hall_questions.proofs.Shared.{under, realm_alike}
use Rattle.hall_questions.proofs.TokensAlike.{verify_alike, reset_alike}

-- in the realm in force
module _ (one other : List Fact) (alike : AnswerAlike one other) (moment : ℕ) (draws : Draws) where
  in_force : (ask : Ask) (finding : Finding) → due_ask (setting_at one moment draws) ask finding ≡ due_ask (under (realm_now other) moment draws one) ask finding
  in_force ask finding = ap (λ (realm : RealmParts). due_ask (under realm moment draws one) ask finding) (realm_alike one other alike)

  pub ask_alike : (ask : Ask) (finding : Finding) → due_ask (setting_at one moment draws) ask finding ≡ due_ask (setting_at other moment draws) ask finding
  ask_alike (asks.Bad at) finding = refl
  ask_alike (asks.NewTab new) finding = in_force (asks.NewTab new) finding ∙ new_tab_alike one other alike (realm_now other) moment draws new
  ask_alike (asks.Page root tab) finding = in_force (asks.Page root tab) finding ∙ page_alike one other alike (realm_now other) moment draws root tab
  ask_alike (asks.Post post) finding = in_force (asks.Post post) finding ∙ post_alike one other alike (realm_now other) moment draws post finding
  ask_alike (asks.Verify key) finding = verify_alike one other alike moment draws key
  ask_alike (asks.Reset key password) finding = reset_alike one other alike moment draws key finding
  ask_alike (asks.Logout root) finding = in_force (asks.Logout root) finding ∙ logout_alike one other alike (realm_now other) moment draws root
  ask_alike (asks.Admin access verb) finding = admin_alike one other alike moment draws access verb finding
