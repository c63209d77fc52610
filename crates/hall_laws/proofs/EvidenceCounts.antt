-- The evidence of an accepted post counts at once.
use Rattle.std.proofs.Common.{◌≡◌, ℕ, Bool, true, false, List, [], ◌∷◌, ◌++◌, Some, None, refl, subst}
use Rattle.std.specs.Prelude.{Option, if◌then◌else◌}
use Rattle.std.specs.List.{list_any}
use Rattle.std.proofs.lemmas.Bool.{eq-eqb, or_right}
use Rattle.login_base.specs.declared.id.TabKey.{TabKey}
use Rattle.login_base.specs.declared.id.UserId.{UserId}
use Rattle.conditions.specs.Secrets.{secret_of}
use Rattle.flow_tree.specs.declared.exec.Kind.{Kind}
use Rattle.flow_tree.specs.declared.exec.Kind.TheVariants as kinds
use Rattle.one_time.specs.declared.verdict.Verdict.{Verdict}
use Rattle.one_time.specs.declared.verdict.Verdict.TheVariants as verdicts
use Rattle.asks.specs.declared.ask.Form.{Form}
use Rattle.asks.specs.declared.ask.Form.TheVariants as forms
use Rattle.asks.specs.declared.finding.Finding.{Finding}
use Rattle.asks.specs.declared.reply.Need.{Need}
use Rattle.facts.specs.declared.fact.Fact.{Fact}
use Rattle.facts.specs.declared.fact.Fact.TheVariants as events
use Rattle.facts.specs.declared.user_password.UserPassword.{UserPassword}
use Rattle.facts.specs.Evidence.{voids, has_evidence}
use Rattle.facts.specs.Secrets.{KeptOtp, KeptRecovery, otp_of, recovery_of}
use Rattle.hall_answers.specs.Setting.{Setting}
use Rattle.tab_asks.specs.declared.check.Check.{Check}
use Rattle.tab_asks.specs.declared.check.Check.TheVariants as checks
use Rattle.tab_asks.specs.declared.check.Credential.{Credential}
use Rattle.tab_asks.specs.declared.check.Spent.{Spent}
use Rattle.tab_asks.specs.declared.check.Spent.TheVariants as spends
use Rattle.tab_asks.specs.declared.passing.Passing.{Passing}
use Rattle.tab_asks.specs.Codes.{step_check, otp_verdict, otp_check, number_check, kept_verdict, recovery_check, asks_recovery, code_check}
use Rattle.tab_asks.specs.Forms.{evidence_fact, evidence_of}
use Rattle.login_progress.specs.declared.known_tab.KnownTab.{KnownTab}
use Rattle.tab_asks.specs.Post.{check_with}
use Rattle.hall_laws.specs.AskedEvidence.{execution_of}
use Rattle.hall_laws.proofs.PassedLeaves.{id_same}
use Rattle.hall_laws.proofs.TabStates.{same_id-same}

-- ---- a code that fits is used up

abbrev IsUsed : Spent → Type 0
IsUsed spends.Nothing = ⊥
IsUsed (spends.Step step) = Unit {0}
IsUsed (spends.Number number) = Unit {0}

abbrev UsesUp : Check → Type 0
UsesUp (checks.Fits user credential) = IsUsed credential.spent
UsesUp (checks.Wrong user) = Unit {0}
UsesUp (checks.WrongCode user) = Unit {0}
UsesUp (checks.SpentCode step) = Unit {0}

step_uses : (user : UserId) (serial : ℕ) (verdict : Verdict) → UsesUp (step_check user serial verdict)
step_uses user serial (verdicts.Fits step) = tt
step_uses user serial (verdicts.Spent step) = tt
step_uses user serial verdicts.Wrong = tt

number_uses : (user : UserId) (serial : ℕ) (verdict : Verdict) → UsesUp (number_check user serial verdict)
number_uses user serial (verdicts.Fits number) = tt
number_uses user serial (verdicts.Spent number) = tt
number_uses user serial verdicts.Wrong = tt

otp_uses : (setting : Setting) (user : UserId) (kept : Option KeptOtp) (value : List ℕ) → UsesUp (otp_check setting user kept value)
otp_uses setting user None value = tt
otp_uses setting user (Some kept) value = step_uses user kept.serial (otp_verdict setting kept value)

recovery_uses : (setting : Setting) (user : UserId) (kept : Option KeptRecovery) (value : List ℕ) → UsesUp (recovery_check setting user kept value)
recovery_uses setting user None value = tt
recovery_uses setting user (Some kept) value = number_uses user kept.serial (kept_verdict setting kept value)

either_uses : (b : Bool) (one other : Check) → UsesUp one → UsesUp other → UsesUp (if b then one else other)
either_uses true one other h k = h
either_uses false one other h k = k

code_uses : (setting : Setting) (asked : List Need) (who : Option UserId) (execution value : List ℕ) → UsesUp (code_check setting asked who execution value)
unfolding code_check
code_uses setting asked None execution value = tt
code_uses setting asked (Some user) execution value =
    either_uses (asks_recovery asked execution) _ _
    (recovery_uses setting user (recovery_of user setting.facts) value) (otp_uses setting user (otp_of user setting.facts) value)

-- a form of a code uses one up
abbrev pub IsUsedBy : Form → Spent → Type 0
IsUsedBy (forms.Value execution value) spent = IsUsed spent
IsUsedBy form spent = Unit {0}

pub check_uses : (setting : Setting) (known : KnownTab) (asked : List Need) (named who : Option UserId) (password : Option UserPassword) (form : Form) (finding : Finding) (user : UserId) (credential : Credential)
    → check_with setting known asked named who password form finding ≡ checks.Fits user credential → IsUsedBy form credential.spent
check_uses setting known asked named who password (forms.Value execution value) finding user credential h = subst UsesUp h (code_uses setting asked who execution value)
check_uses setting known asked named who password (forms.Username execution name) finding user credential h = tt
check_uses setting known asked named who password (forms.NamePassword execution name given) finding user credential h = tt
check_uses setting known asked named who password (forms.Password execution given) finding user credential h = tt
check_uses setting known asked named who password forms.Terms finding user credential h = tt
check_uses setting known asked named who password (forms.UpdatePassword given) finding user credential h = tt
check_uses setting known asked named who password (forms.ConfigureOtp value) finding user credential h = tt
check_uses setting known asked named who password forms.RecoveryCodes finding user credential h = tt
check_uses setting known asked named who password forms.VerifyEmail finding user credential h = tt

-- ---- evidence at the end of the facts

evidence_behind : (tab : TabKey) (user : UserId) (id : List ℕ) (old new : List Fact) → has_evidence tab user id new ≡ true → has_evidence tab user id (old ++ new) ≡ true
unfolding has_evidence
evidence_behind tab user id [] new h = h
evidence_behind tab user id (fact ∷ old) new h = or_right _ (has_evidence tab user id (old ++ new)) (evidence_behind tab user id old new h)

alone_counts : (passing : Passing) (execution : List ℕ) (kind : Kind) (later : List Fact) → list_any (voids passing.tab passing.user (secret_of kind)) later ≡ false
    → has_evidence passing.tab passing.user execution (evidence_fact passing execution kind ∷ later) ≡ true
unfolding has_evidence
alone_counts passing execution kind later unvoided =
    rw (same_id-same passing.tab.0, eq-eqb passing.user.0 passing.user.0 refl, id_same execution, unvoided) refl

code_counts : (passing : Passing) (execution value : List ℕ) (spent : Spent) → passing.credential.spent ≡ spent → IsUsed spent
    → has_evidence passing.tab passing.user execution (evidence_of passing (forms.Value execution value)) ≡ true
code_counts passing execution value spends.Nothing is used = absurd used
code_counts passing execution value (spends.Step step) is used = rw is (alone_counts passing execution kinds.Otp (events.SpentStep passing.credential.serial step ∷ []) refl)
code_counts passing execution value (spends.Number number) is used = rw is (alone_counts passing execution kinds.Recovery (events.SpentRecovery passing.credential.serial number ∷ []) refl)

form_counts : (passing : Passing) (form : Form) (execution : List ℕ) → execution_of form ≡ Some execution → IsUsedBy form passing.credential.spent
    → has_evidence passing.tab passing.user execution (evidence_of passing form) ≡ true
unfolding has_evidence
form_counts passing (forms.Username own name) execution is used = let e : own ≡ execution = cc in rw e (alone_counts passing execution kinds.Username [] refl)
form_counts passing (forms.NamePassword own name password) execution is used = let e : own ≡ execution = cc in rw e (alone_counts passing execution kinds.Form [] refl)
form_counts passing (forms.Password own password) execution is used = let e : own ≡ execution = cc in rw e (alone_counts passing execution kinds.Password [] refl)
form_counts passing (forms.Value own value) execution is used = let e : own ≡ execution = cc in rw e (code_counts passing execution value passing.credential.spent refl used)
form_counts passing forms.Terms execution is used = absurd cc
form_counts passing (forms.UpdatePassword password) execution is used = absurd cc
form_counts passing (forms.ConfigureOtp value) execution is used = absurd cc
form_counts passing forms.RecoveryCodes execution is used = absurd cc
form_counts passing forms.VerifyEmail execution is used = absurd cc

-- the form's execution is passed by the user in the tab
abbrev pub HasPassed : List Fact → TabKey → UserId → Form → Type 0
HasPassed facts tab user form = (execution : List ℕ) → execution_of form ≡ Some execution → has_evidence tab user execution facts ≡ true

pub evidence_counts : (old : List Fact) (passing : Passing) (form : Form) → IsUsedBy form passing.credential.spent → HasPassed (old ++ evidence_of passing form) passing.tab passing.user form
evidence_counts old passing form used execution is =
    evidence_behind passing.tab passing.user execution old (evidence_of passing form) (form_counts passing form execution is used)
