-- What is known of a tab behind more facts.
use Rattle.std.proofs.Common.{◌≡◌, ℕ, true, false, List, [], ◌∷◌, ◌++◌, Some, None, refl, sym, ap, ◌∙◌, append_assoc}
use Rattle.std.specs.Prelude.{Option, fold}
use Rattle.std.specs.List.{All, list_any}
use Rattle.std.specs.Option.{option_or}
use Rattle.std.proofs.lemmas.Bool.{eq-eqb}
use Rattle.std.proofs.lemmas.List.Elements.{All-head, All-tail}
use Rattle.login_base.specs.IdText.{same_id}
use Rattle.login_base.specs.declared.id.Id.{Id}
use Rattle.login_base.specs.declared.id.RootKey.{RootKey}
use Rattle.login_base.specs.declared.id.TabKey.{TabKey}
use Rattle.login_base.specs.declared.id.UserId.{UserId}
use Rattle.asks.specs.declared.ask.Form.{Form}
use Rattle.asks.specs.declared.ask.Form.TheVariants as forms
use Rattle.asks.specs.declared.finding.Finding.{Finding}
use Rattle.facts.specs.declared.fact.Fact.{Fact}
use Rattle.facts.specs.declared.tabs.RootSession.{RootSession}
use Rattle.facts.specs.declared.tabs.TabState.{TabState}
use Rattle.account_states.specs.States.{state_of, moves_state}
use Rattle.account_states.proofs.StateLemmas.{state_kept}
use Rattle.facts.specs.Tabs.{tab_state, tab_after}
use Rattle.facts.proofs.TabLemmas.{tab_state_more}
use Rattle.hall_answers.specs.Setting.{Setting}
use Rattle.login_progress.specs.declared.known_tab.KnownTab.{KnownTab}
use Rattle.tab_asks.specs.declared.check.Credential.{Credential}
use Rattle.tab_asks.specs.declared.check.Spent.{Spent}
use Rattle.tab_asks.specs.declared.check.Spent.TheVariants as spends
use Rattle.tab_asks.specs.declared.passing.Passing.{Passing}
use Rattle.tab_asks.specs.Deeds.{deed_facts}
use Rattle.tab_asks.specs.Forms.{code_evidence, evidence_of}
use Rattle.tab_asks.specs.Post.{accepted_facts}
use Rattle.root_asks.specs.declared.place.Place.{Place}
use Rattle.root_asks.specs.NewTab.{facts_opened, opening_facts, opening_at, opening_fact}
use Rattle.tab_pages.specs.Pages.{seen_now}
use Rattle.hall_laws.proofs.DeedFacts.{deeds_all}

pub same_id-same : (a : Id) → same_id a a ≡ true
same_id-same a = rw (eq-eqb a.serial a.serial refl, eq-eqb a.high a.high refl, eq-eqb a.low a.low refl) refl

pub more_state : (root : RootKey) (tab : TabKey) (old more : List Fact) → tab_state root tab (old ++ more) ≡ fold (tab_after root tab) (tab_state root tab old) more
more_state root tab old more = sym (tab_state_more root tab (tab_state root tab old) old more refl)

-- ---- behind its opening

opened_by : (setting : Setting) (place : Place) (live : Option RootSession) (state : TabState)
    → (fold (tab_after place.root place.tab) state (seen_now setting live ++ opening_fact setting place ∷ [])).opening ≡ Some (opening_at setting place)
opened_by setting place None state = rw (same_id-same place.root.0, same_id-same place.tab.0) refl
opened_by setting place (Some own) state = rw (same_id-same place.root.0, same_id-same place.tab.0) refl

pub opened_state : (setting : Setting) (place : Place) → (tab_state place.root place.tab (facts_opened setting place)).opening ≡ Some (opening_at setting place)
opened_state setting place =
    ap (λ (s : TabState). s.opening) (more_state place.root place.tab setting.facts (opening_facts setting place))
    ∙ opened_by setting place place.live (tab_state place.root place.tab setting.facts)

-- ---- behind the evidence of a form

-- whom the evidence of a form names
abbrev pub named_as : UserId → Form → Option UserId
named_as user (forms.Username execution name) = Some user
named_as user (forms.NamePassword execution name password) = Some user
named_as user (forms.Password execution password) = None
named_as user (forms.Value execution value) = None
named_as user forms.Terms = None
named_as user (forms.UpdatePassword password) = None
named_as user (forms.ConfigureOtp value) = None
named_as user forms.RecoveryCodes = None
named_as user forms.VerifyEmail = None

abbrev pub with_name : TabState → Option UserId → TabState
with_name state user = record state { named = option_or user state.named }

code_state : (root : RootKey) (old : List Fact) (passing : Passing) (execution : List ℕ) (spent : Spent)
    → tab_state root passing.tab (old ++ code_evidence passing execution spent) ≡ tab_state root passing.tab old
code_state root old passing execution spends.Nothing = more_state root passing.tab old []
code_state root old passing execution (spends.Step step) = more_state root passing.tab old (code_evidence passing execution (spends.Step step))
code_state root old passing execution (spends.Number number) = more_state root passing.tab old (code_evidence passing execution (spends.Number number))

pub evidence_state : (root : RootKey) (old : List Fact) (passing : Passing) (form : Form)
    → tab_state root passing.tab (old ++ evidence_of passing form) ≡ with_name (tab_state root passing.tab old) (named_as passing.user form)
evidence_state root old passing (forms.Username execution name) =
    more_state root passing.tab old (evidence_of passing (forms.Username execution name)) ∙ rw (same_id-same passing.tab.0) refl
evidence_state root old passing (forms.NamePassword execution name password) =
    more_state root passing.tab old (evidence_of passing (forms.NamePassword execution name password)) ∙ rw (same_id-same passing.tab.0) refl
evidence_state root old passing (forms.Password execution password) = more_state root passing.tab old (evidence_of passing (forms.Password execution password))
evidence_state root old passing (forms.Value execution value) = code_state root old passing execution passing.credential.spent
evidence_state root old passing forms.Terms = more_state root passing.tab old []
evidence_state root old passing (forms.UpdatePassword password) = more_state root passing.tab old []
evidence_state root old passing (forms.ConfigureOtp value) = more_state root passing.tab old []
evidence_state root old passing forms.RecoveryCodes = more_state root passing.tab old []
evidence_state root old passing forms.VerifyEmail = more_state root passing.tab old []

-- evidence changes nothing of how an account stands
code_unmoved : (passing : Passing) (execution : List ℕ) (spent : Spent) (user : UserId) → list_any (moves_state user) (code_evidence passing execution spent) ≡ false
code_unmoved passing execution spends.Nothing user = refl
code_unmoved passing execution (spends.Step step) user = refl
code_unmoved passing execution (spends.Number number) user = refl

unmoved : (passing : Passing) (form : Form) (user : UserId) → list_any (moves_state user) (evidence_of passing form) ≡ false
unmoved passing (forms.Username execution name) user = refl
unmoved passing (forms.NamePassword execution name password) user = refl
unmoved passing (forms.Password execution password) user = refl
unmoved passing (forms.Value execution value) user = code_unmoved passing execution passing.credential.spent user
unmoved passing forms.Terms user = refl
unmoved passing (forms.UpdatePassword password) user = refl
unmoved passing (forms.ConfigureOtp value) user = refl
unmoved passing forms.RecoveryCodes user = refl
unmoved passing forms.VerifyEmail user = refl

evidence_kept : (old : List Fact) (passing : Passing) (form : Form) (user : UserId)
    → state_of user (old ++ evidence_of passing form) ≡ state_of user old
evidence_kept old passing form user = state_kept user old (evidence_of passing form) (unmoved passing form user)

-- ---- behind what an accepted post adds

abbrev LeavesTab : RootKey → TabKey → Fact → Type 0
LeavesTab root tab fact = (state : TabState) → tab_after root tab state fact ≡ state

left : (root : RootKey) (tab : TabKey) (state : TabState) (facts : List Fact) → All (LeavesTab root tab) facts → fold (tab_after root tab) state facts ≡ state
left root tab state [] all = refl
left root tab state (fact ∷ facts) all =
    ap (λ (s : TabState). fold (tab_after root tab) s facts) (All-head (LeavesTab root tab) fact facts all state)
    ∙ left root tab state facts (All-tail (LeavesTab root tab) fact facts all)

abbrev MovesNothing : UserId → Fact → Type 0
MovesNothing user fact = moves_state user fact ≡ false

none_moves : (user : UserId) (facts : List Fact) → All (MovesNothing user) facts → list_any (moves_state user) facts ≡ false
none_moves user [] all = refl
none_moves user (fact ∷ facts) all =
    rw (All-head (MovesNothing user) fact facts all) (none_moves user facts (All-tail (MovesNothing user) fact facts all))

module _ (setting : Setting) (known : KnownTab) (form : Form) (finding : Finding) (user : UserId) (credential : Credential) where
  abbrev by_post : Passing
  by_post = record { tab = known.tab; user = user; credential = credential; moment = setting.moment }

  abbrev deeds : List Fact
  deeds = deed_facts setting known form finding user credential.spent

  -- the tab is as before, but for whom the form names
  pub accepted_state : (root : RootKey) → tab_state root known.tab (setting.facts ++ accepted_facts setting known form finding user credential)
      ≡ with_name (tab_state root known.tab setting.facts) (named_as user form)
  accepted_state root =
      let evidence = evidence_of by_post form in
      let P : Fact → Type 0 = LeavesTab root known.tab in
      ap (tab_state root known.tab) (sym (append_assoc setting.facts evidence deeds))
      ∙ more_state root known.tab (setting.facts ++ evidence) deeds
      ∙ left root known.tab (tab_state root known.tab (setting.facts ++ evidence)) deeds
      (deeds_all P (λ own kind serial secret by s. refl) (λ own action s. refl) (λ serial step s. refl) setting known form finding user credential.spent)
      ∙ evidence_state root setting.facts by_post form

  -- and every account stands as it stood
  pub account_kept : (own : UserId) → state_of own (setting.facts ++ accepted_facts setting known form finding user credential) ≡ state_of own setting.facts
  account_kept own =
      let evidence = evidence_of by_post form in
      let P : Fact → Type 0 = MovesNothing own in
      ap (state_of own) (sym (append_assoc setting.facts evidence deeds))
      ∙ state_kept own (setting.facts ++ evidence) deeds
      (none_moves own deeds (deeds_all P (λ of kind serial secret by. refl) (λ of action. refl) (λ serial step. refl) setting known form finding user credential.spent))
      ∙ evidence_kept setting.facts by_post form own
