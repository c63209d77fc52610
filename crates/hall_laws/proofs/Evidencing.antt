-- Evidence comes of posts alone, and only where it was asked.
use Rattle.std.proofs.Common.{◌≡◌, ℕ, Bool, true, false, ◌&&◌, ◌||◌, List, [], ◌∷◌, Some, None, refl, sym, ap, ◌∙◌}
use Rattle.std.specs.Prelude.{Option, ◌==◌}
use Rattle.std.specs.List.{All}
use Rattle.std.proofs.lemmas.Bool.{and_parts, eqb-true}
use Rattle.std.proofs.lemmas.List.Elements.{All-nil, All-cons}
use Rattle.login_base.specs.IdText.{same_id}
use Rattle.login_base.specs.declared.id.Code.{Code}
use Rattle.login_base.specs.declared.id.Id.{Id}
use Rattle.asks.specs.declared.ask.Ask.{Ask}
use Rattle.asks.specs.declared.ask.Form.{Form}
use Rattle.asks.specs.declared.ask.Form.TheVariants as forms
use Rattle.asks.specs.declared.ask.Post.{Post}
use Rattle.facts.specs.declared.fact.Fact.{Fact}
use Rattle.facts.specs.declared.fact.Fact.TheVariants as events
use Rattle.asks.specs.declared.finding.Finding.{Finding}
use Rattle.facts.specs.declared.tabs.Page.{Page}
use Rattle.facts.specs.Tabs.{shown_code}
use Rattle.hall_answers.specs.Setting.{Setting}
use Rattle.login_progress.specs.Progress.{asked_in, action_in}
use Rattle.realm_data.specs.declared.action.Action.{Action}
use Rattle.tab_asks.specs.declared.check.Spent.{Spent}
use Rattle.tab_asks.specs.declared.check.Spent.TheVariants as spends
use Rattle.tab_asks.specs.declared.passing.Passing.{Passing}
use Rattle.flow_tree.specs.declared.exec.Kind.TheVariants as kinds
use Rattle.tab_asks.specs.Forms.{code_evidence, evidence_of, name_fact, evidence_fact}
use Rattle.tab_asks.specs.Deeds.{does, does_asked}
use Rattle.tab_asks.specs.Post.{is_code, has_need, due_post}
use Rattle.login_hall.specs.Due.{due_ask}
use Rattle.hall_laws.specs.AskedEvidence.{execution_of, IsRightEvidence, IsAskedEvidence, is_evidence, is_post}
use Rattle.hall_laws.specs.Ready.{IsAccepted, progress_at}
use Rattle.hall_laws.proofs.Added.{is_plain, plain_allows, post_all, other_all}
use Rattle.hall_laws.proofs.PostReadiness.{behind}

pub same_is : (a b : Id) → same_id a b ≡ true → a ≡ b
same_is a b h =
    let front = and_parts (a.serial == b.serial && a.high == b.high) (a.low == b.low) h in
    let both = and_parts (a.serial == b.serial) (a.high == b.high) front.0 in
    let serial = eqb-true a.serial b.serial both.0 in
    let high = eqb-true a.high b.high both.1 in
    let low = eqb-true a.low b.low front.1 in
    ap (λ (n : ℕ). let id : Id = record { serial = n; high = a.high; low = a.low } in id) serial
    ∙ ap (λ (n : ℕ). let id : Id = record { serial = b.serial; high = n; low = a.low } in id) high
    ∙ ap (λ (n : ℕ). let id : Id = record { serial = b.serial; high = b.high; low = n } in id) low

code_is : (code : Code) (shown : Option Code) → is_code code shown ≡ true → shown ≡ Some code
code_is code (Some shown) h = ap (λ (id : Id). let option : Option Code = Some (record { 0 = id }) in option) (same_is shown.0 code.0 h)
code_is code None h = absurd cc

-- ---- posts

code_asked : (setting : Setting) (post : Post) (passing : Passing) (execution : List ℕ) (spent : Spent) → IsRightEvidence setting post passing.tab execution
    → All (IsAskedEvidence setting post) (code_evidence passing execution spent)
code_asked setting post passing execution spends.Nothing right = All-nil (IsAskedEvidence setting post)
code_asked setting post passing execution (spends.Step step) right =
    let P : Fact → Type 0 = IsAskedEvidence setting post in
    let spent = events.SpentStep passing.credential.serial step in
    All-cons P (evidence_fact passing execution kinds.Otp) (spent ∷ []) right (All-cons P spent [] tt (All-nil P))
code_asked setting post passing execution (spends.Number number) right =
    let P : Fact → Type 0 = IsAskedEvidence setting post in
    let spent = events.SpentRecovery passing.credential.serial number in
    All-cons P (evidence_fact passing execution kinds.Recovery) (spent ∷ []) right (All-cons P spent [] tt (All-nil P))

either_asked : (asked : Bool) → (asked || false) ≡ true → asked ≡ true
either_asked true h = refl
either_asked false h = h

no_action : (asked : Bool) (action : Option Action) (page : Option Page) (form : Form) → ((of : Action) → does form of ≡ false)
    → (asked || does_asked action page form) ≡ true → asked ≡ true
no_action asked None page form none h = either_asked asked h
no_action asked (Some of) page form none h = either_asked asked (rw (none of) at h)

form_asked : (setting : Setting) (post : Post) (passing : Passing) (form : Form)
    → ((execution : List ℕ) → execution_of form ≡ Some execution → IsRightEvidence setting post passing.tab execution)
    → All (IsAskedEvidence setting post) (evidence_of passing form)
form_asked setting post passing (forms.Username execution name) right =
    let P : Fact → Type 0 = IsAskedEvidence setting post in
    All-cons P (name_fact passing) (evidence_fact passing execution kinds.Username ∷ []) tt (All-cons P (evidence_fact passing execution kinds.Username) [] (right execution refl) (All-nil P))
form_asked setting post passing (forms.NamePassword execution name password) right =
    let P : Fact → Type 0 = IsAskedEvidence setting post in
    All-cons P (name_fact passing) (evidence_fact passing execution kinds.Form ∷ []) tt (All-cons P (evidence_fact passing execution kinds.Form) [] (right execution refl) (All-nil P))
form_asked setting post passing (forms.Password execution password) right =
    let P : Fact → Type 0 = IsAskedEvidence setting post in
    All-cons P (evidence_fact passing execution kinds.Password) [] (right execution refl) (All-nil P)
form_asked setting post passing (forms.Value execution value) right = code_asked setting post passing execution passing.credential.spent (right execution refl)
form_asked setting post passing forms.Terms right = All-nil (IsAskedEvidence setting post)
form_asked setting post passing (forms.UpdatePassword password) right = All-nil (IsAskedEvidence setting post)
form_asked setting post passing (forms.ConfigureOtp value) right = All-nil (IsAskedEvidence setting post)
form_asked setting post passing forms.RecoveryCodes right = All-nil (IsAskedEvidence setting post)
form_asked setting post passing forms.VerifyEmail right = All-nil (IsAskedEvidence setting post)

-- a form that names an execution does no action
executes : (form : Form) (execution : List ℕ) (action : Option Action) (page : Option Page) (asked : Bool) → execution_of form ≡ Some execution
    → (asked || does_asked action page form) ≡ true → asked ≡ true
executes (forms.Username own name) execution action page asked is h = no_action asked action page (forms.Username own name) (λ of. refl) h
executes (forms.NamePassword own name password) execution action page asked is h = no_action asked action page (forms.NamePassword own name password) (λ of. refl) h
executes (forms.Password own password) execution action page asked is h = no_action asked action page (forms.Password own password) (λ of. refl) h
executes (forms.Value own value) execution action page asked is h = no_action asked action page (forms.Value own value) (λ of. refl) h
executes forms.Terms execution action page asked is h = absurd cc
executes (forms.UpdatePassword password) execution action page asked is h = absurd cc
executes (forms.ConfigureOtp value) execution action page asked is h = absurd cc
executes forms.RecoveryCodes execution action page asked is h = absurd cc
executes forms.VerifyEmail execution action page asked is h = absurd cc

accepted_right : (setting : Setting) (post : Post) (finding : Finding) (accepted : IsAccepted setting post finding) (execution : List ℕ) → execution_of post.form ≡ Some execution
    → IsRightEvidence setting post accepted.known.tab execution
accepted_right setting post finding accepted execution h =
    let b = behind setting post finding accepted in
    let known = accepted.known in
    let progress = progress_at setting known in
    record {
      is_its_tab = sym b.known.is_tab;
      is_of_form = h;
      known = known;
      is_known = accepted.is_known;
      is_shown = code_is post.code (shown_code known.state) b.current.code_shown;
      is_asked = executes post.form execution (action_in progress) known.state.page (has_need (asked_in progress) post.form) h b.fitting.form_asked;
    }

asked : (setting : Setting) (post : Post) (fact : Fact) → is_plain fact ≡ true → IsAskedEvidence setting post fact
asked setting post (events.Passed tab execution user kind credential moment) h = absurd cc
asked setting post fact h = tt

pub evidence_asked : (setting : Setting) (post : Post) (finding : Finding) → All (IsAskedEvidence setting post) (due_post setting post finding).added
evidence_asked setting post finding =
    post_all (IsAskedEvidence setting post) (plain_allows (IsAskedEvidence setting post) (asked setting post)) (λ tab user session moment. tt) setting post finding (λ user opened. tt) (λ credential step. tt) (λ accepted.
    let passing : Passing = record { tab = accepted.known.tab; user = accepted.user; credential = accepted.credential; moment = setting.moment } in
    form_asked setting post passing post.form (accepted_right setting post finding accepted))

-- ---- other asks

abbrev IsNone : Fact → Type 0
IsNone fact = is_evidence fact ≡ false

none : (fact : Fact) → is_plain fact ≡ true → IsNone fact
none (events.Passed tab execution user kind credential moment) h = absurd cc
none fact h = refl

pub evidence_of_posts : (setting : Setting) (ask : Ask) (finding : Finding) → is_post ask ≡ false → All (λ fact. is_evidence fact ≡ false) (due_ask setting ask finding).added
evidence_of_posts setting ask finding h = other_all IsNone (plain_allows IsNone none) (λ tab user session moment. refl) setting ask finding h (λ key is. refl)
