-- How far a login has come, where lists of facts answer alike.
use Rattle.std.proofs.Common.{◌≡◌, ℕ, List, [], ◌∷◌, Option, Some, None, refl, ap, ◌∙◌}
use Rattle.std.specs.Prelude.{find, option_and_then}
use Rattle.login_base.specs.declared.id.TabKey.{TabKey}
use Rattle.login_base.specs.declared.id.UserId.{UserId}
use Rattle.one_time.specs.Verdicts.{next_number}
use Rattle.flow_tree.specs.declared.exec.Exec.{Exec}
use Rattle.flow_tree.specs.declared.leaves.Leaf.{Leaf}
use Rattle.flow_tree.specs.Leaves.{leaves_of}
use Rattle.flow_truths.specs.Truths.{truths}
use Rattle.realm_data.specs.declared.action.Action.{Action}
use Rattle.realm_data.specs.declared.realm_parts.RealmParts.{RealmParts}
use Rattle.facts.specs.declared.fact.Fact.{Fact}
use Rattle.facts.specs.declared.tabs.RootSession.{RootSession}
use Rattle.facts.specs.Actions.{is_pending, in_order, first_pending}
use Rattle.facts.specs.Realms.{realm_of}
use Rattle.facts.specs.Secrets.{KeptRecovery, recovery_of}
use Rattle.facts.specs.Tabs.{live_session, who_of}
use Rattle.login_progress.specs.declared.known_tab.KnownTab.{KnownTab}
use Rattle.login_progress.specs.declared.login.Login.{Login}
use Rattle.login_progress.specs.Account.{next_of, next_code, view_of, account_of}
use Rattle.login_progress.specs.Evidence.{has_evidence_of, passed_of}
use Rattle.login_progress.specs.Login.{levels_in, login_in}
use Rattle.login_progress.specs.Progress.{progress_by, progress_in, progress_under, progress_of}
use Rattle.hall_questions.specs.Questions.{AnswerAlike}
use Rattle.hall_questions.proofs.EvidenceAlike.{evidence_alike}

module _ (one other : List Fact) (alike : AnswerAlike one other) where
  -- ---- the account

  next_found : (kept : Option KeptRecovery) → option_and_then (next_of one) kept ≡ option_and_then (next_of other) kept
  next_found None = refl
  next_found (Some kept) = ap (next_number kept.digests) (alike.codes kept.serial)

  next_code_alike : (user : UserId) → next_code one user ≡ next_code other user
  unfolding next_code
  next_code_alike user = ap (option_and_then (next_of one)) (alike.recovery user) ∙ next_found (recovery_of user other)

  view_alike : (user : UserId) → view_of one user ≡ view_of other user
  view_alike user = rw (alike.roles user, alike.password user, alike.otp user, next_code_alike user) refl

  account_alike : (who : Option UserId) → account_of one who ≡ account_of other who
  unfolding account_of
  account_alike None = refl
  account_alike (Some user) = rw (alike.roles user, alike.password user, alike.otp user, next_code_alike user) refl

  -- ---- the login

  counts_alike : (tab : TabKey) (who : Option UserId) (leaf : Leaf) → has_evidence_of one tab who leaf ≡ has_evidence_of other tab who leaf
  counts_alike tab None leaf = refl
  counts_alike tab (Some user) leaf = evidence_alike one other alike tab user leaf.id

  passed_alike : (tab : TabKey) (who : Option UserId) (leaves : List Leaf) → passed_of one tab who leaves ≡ passed_of other tab who leaves
  unfolding passed_of
  passed_alike tab who [] = refl
  passed_alike tab who (leaf ∷ leaves) = rw (counts_alike tab who leaf, passed_alike tab who leaves) refl

  levels_alike : (own : Option RootSession) → levels_in one own ≡ levels_in other own
  levels_alike None = refl
  levels_alike (Some own) = rw (alike.levels own.session) refl

  login_alike : (moment : ℕ) (known : KnownTab) (who : Option UserId) (tree : List Exec) → login_in one moment known who tree ≡ login_in other moment known who tree
  unfolding login_in
  login_alike moment known who tree =
      rw (account_alike who, levels_alike (live_session moment known.state), passed_alike known.tab who (leaves_of tree)) refl

  -- ---- its progress

  pending_among : (user : UserId) (actions : List Action) → find (is_pending user one) actions ≡ find (is_pending user other) actions
  pending_among user [] = refl
  pending_among user (action ∷ actions) = rw (alike.pending user action, pending_among user actions) refl

  pending_alike : (user : UserId) → first_pending user one ≡ first_pending user other
  unfolding first_pending
  pending_alike user = pending_among user in_order

  by_alike : (login : Login) (held : List (List ℕ)) (tree : List Exec) (who : Option UserId) → progress_by one login held tree who ≡ progress_by other login held tree who
  by_alike login held tree None = refl
  by_alike login held tree (Some user) = rw (pending_alike user) refl

  in_alike : (moment : ℕ) (known : KnownTab) (who : Option UserId) (tree : List Exec) → progress_in one moment known who tree ≡ progress_in other moment known who tree
  unfolding progress_in
  in_alike moment known who tree =
      let login = login_in other moment known who tree in
      ap (λ (login : Login). progress_by one login (truths login.view tree) tree who) (login_alike moment known who tree)
      ∙ by_alike login (truths login.view tree) tree who

  under_alike : (moment : ℕ) (known : KnownTab) (realm : Option RealmParts) → progress_under one moment known realm ≡ progress_under other moment known realm
  under_alike moment known None = refl
  under_alike moment known (Some realm) = in_alike moment known (who_of moment known.state) realm.flow

  pub progress_alike : (moment : ℕ) (known : KnownTab) → progress_of one moment known ≡ progress_of other moment known
  unfolding progress_of
  progress_alike moment known =
      ap (progress_under one moment known) (alike.realm_of known.opening.version) ∙ under_alike moment known (realm_of known.opening.version other)
