-- Who follows a token is due the same over lists of facts that answer alike.
use Rattle.std.proofs.Common.{◌≡◌, ℕ, None, List, refl, ap}
use Rattle.login_base.specs.declared.draws.Draws.{Draws}
use Rattle.login_base.specs.declared.id.TokenKey.{TokenKey}
use Rattle.login_base.specs.declared.id.UserId.{UserId}
use Rattle.asks.specs.declared.admin.TokenAction.{TokenAction}
use Rattle.asks.specs.declared.admin.TokenAction.TheVariants as tokens
use Rattle.asks.specs.declared.finding.Finding.{Finding}
use Rattle.facts.specs.declared.fact.Fact.{Fact}
use Rattle.hall_answers.specs.Setting.{setting_at}
use Rattle.token_asks.specs.Follow.{token_from, check_made, check_unspent, check_token, answer_to_verify, due_verify, answer_to_reset, due_reset}
use Rattle.hall_questions.specs.Questions.{AnswerAlike}
use Rattle.hall_questions.proofs.Shared.{settled_alike}

module _ (one other : List Fact) (alike : AnswerAlike one other) where
  check_made_alike : (key : TokenKey) (kind : TokenAction) → check_made one key kind ≡ check_made other key kind
  unfolding check_made
  check_made_alike key kind = ap token_from (alike.token key kind)

  check_unspent_alike : (key : TokenKey) → check_unspent one key ≡ check_unspent other key
  unfolding check_unspent
  check_unspent_alike key = rw (alike.spent key) refl

  check_token_alike : (moment : ℕ) (key : TokenKey) (kind : TokenAction) → check_token one moment key kind ≡ check_token other moment key kind
  unfolding check_token
  check_token_alike moment key kind = rw (check_made_alike key kind, check_unspent_alike key) refl

  module _ (moment : ℕ) (draws : Draws) (key : TokenKey) where
    answer_to_verify_alike : (user : UserId) → answer_to_verify (setting_at one moment draws) key user ≡ answer_to_verify (setting_at other moment draws) key user
    answer_to_verify_alike user = rw (alike.name user) refl

    pub verify_alike : due_verify (setting_at one moment draws) key ≡ due_verify (setting_at other moment draws) key
    unfolding due_verify
    verify_alike =
        settled_alike one other alike None (answer_to_verify (setting_at one moment draws) key) (answer_to_verify (setting_at other moment draws) key)
        (check_token one moment key tokens.VerifyEmail) (check_token other moment key tokens.VerifyEmail)
        answer_to_verify_alike (check_token_alike moment key tokens.VerifyEmail)

    module _ (finding : Finding) where
      answer_to_reset_alike : (user : UserId)
          → answer_to_reset (setting_at one moment draws) key finding user ≡ answer_to_reset (setting_at other moment draws) key finding user
      answer_to_reset_alike user = rw (alike.name user, alike.stored_serial) refl

      pub reset_alike : due_reset (setting_at one moment draws) key finding ≡ due_reset (setting_at other moment draws) key finding
      unfolding due_reset
      reset_alike =
          settled_alike one other alike None (answer_to_reset (setting_at one moment draws) key finding) (answer_to_reset (setting_at other moment draws) key finding)
          (check_token one moment key tokens.UpdatePassword) (check_token other moment key tokens.UpdatePassword)
          answer_to_reset_alike (check_token_alike moment key tokens.UpdatePassword)
