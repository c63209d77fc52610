-- What holds of each fact that the evidence of a form adds.
use Rattle.std.proofs.Common.{ℕ, List, [], ◌∷◌}
use Rattle.std.specs.List.{All}
use Rattle.std.proofs.lemmas.List.Elements.{All-nil, All-cons}
use Rattle.flow_tree.specs.declared.exec.Kind.{Kind}
use Rattle.flow_tree.specs.declared.exec.Kind.TheVariants as kinds
use Rattle.asks.specs.declared.ask.Form.{Form}
use Rattle.asks.specs.declared.ask.Form.TheVariants as forms
use Rattle.facts.specs.declared.fact.Fact.{Fact}
use Rattle.facts.specs.declared.fact.Fact.TheVariants as events
use Rattle.tab_asks.specs.declared.check.Spent.{Spent}
use Rattle.tab_asks.specs.declared.check.Spent.TheVariants as spends
use Rattle.tab_asks.specs.declared.passing.Passing.{Passing}
use Rattle.tab_asks.specs.Forms.{code_evidence, evidence_of, name_fact, evidence_fact}

module _ (P : Fact → Type 0) (name : (passing : Passing) → P (name_fact passing))
    (passed : (passing : Passing) (execution : List ℕ) (kind : Kind) → P (evidence_fact passing execution kind))
    (step : (credential step : ℕ) → P (events.SpentStep credential step)) (number : (credential number : ℕ) → P (events.SpentRecovery credential number)) where
  named_all : (passing : Passing) (execution : List ℕ) (kind : Kind) → All P (name_fact passing ∷ evidence_fact passing execution kind ∷ [])
  named_all passing execution kind =
      All-cons P (name_fact passing) (evidence_fact passing execution kind ∷ []) (name passing)
      (All-cons P (evidence_fact passing execution kind) [] (passed passing execution kind) (All-nil P))

  code_all : (passing : Passing) (execution : List ℕ) (spent : Spent) → All P (code_evidence passing execution spent)
  code_all passing execution spends.Nothing = All-nil P
  code_all passing execution (spends.Step at) =
      All-cons P (evidence_fact passing execution kinds.Otp) (events.SpentStep passing.credential.serial at ∷ []) (passed passing execution kinds.Otp)
      (All-cons P (events.SpentStep passing.credential.serial at) [] (step passing.credential.serial at) (All-nil P))
  code_all passing execution (spends.Number at) =
      All-cons P (evidence_fact passing execution kinds.Recovery) (events.SpentRecovery passing.credential.serial at ∷ []) (passed passing execution kinds.Recovery)
      (All-cons P (events.SpentRecovery passing.credential.serial at) [] (number passing.credential.serial at) (All-nil P))

  pub evidence_all : (passing : Passing) (form : Form) → All P (evidence_of passing form)
  evidence_all passing (forms.Username execution given) = named_all passing execution kinds.Username
  evidence_all passing (forms.NamePassword execution given password) = named_all passing execution kinds.Form
  evidence_all passing (forms.Password execution password) =
      All-cons P (evidence_fact passing execution kinds.Password) [] (passed passing execution kinds.Password) (All-nil P)
  evidence_all passing (forms.Value execution value) = code_all passing execution passing.credential.spent
  evidence_all passing forms.Terms = All-nil P
  evidence_all passing (forms.UpdatePassword password) = All-nil P
  evidence_all passing (forms.ConfigureOtp value) = All-nil P
  evidence_all passing forms.RecoveryCodes = All-nil P
  evidence_all passing forms.VerifyEmail = All-nil P
