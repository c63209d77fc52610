-- When a login is ready, and which asks complete it.
use Rattle.std.specs.Prelude.{◌≡◌, ℕ, true, false, List, ◌++◌, Option, Some, None, Ok}
use Rattle.login_base.specs.declared.id.RootKey.{RootKey}
use Rattle.login_base.specs.declared.id.TabKey.{TabKey}
use Rattle.login_base.specs.declared.id.UserId.{UserId}
use Rattle.flow_tree.specs.Flow.{flow_holds}
use Rattle.realm_data.specs.declared.realm_parts.RealmParts.{RealmParts}
use Rattle.asks.specs.declared.ask.NewTab.{NewTab}
use Rattle.asks.specs.declared.ask.Post.{Post}
use Rattle.facts.specs.declared.fact.Fact.{Fact}
use Rattle.asks.specs.declared.finding.Finding.{Finding}
use Rattle.asks.specs.declared.reply.What.{What}
use Rattle.asks.specs.declared.reply.What.TheVariants as whats
use Rattle.facts.specs.declared.tabs.Opening.{Opening}
use Rattle.facts.specs.declared.tabs.RootSession.{RootSession}
use Rattle.facts.specs.Actions.{first_pending}
use Rattle.facts.specs.Realms.{realm_of}
use Rattle.facts.specs.Tabs.{tab_state, tab_is_live, live_session, who_of}
use Rattle.account_states.specs.States.{is_closed}
use Rattle.account_states.specs.Standings.{standing_of}
use Rattle.hall_answers.specs.Setting.{Setting}
use Rattle.lockout.specs.Standing.{is_locked}
use Rattle.login_progress.specs.declared.known_tab.KnownTab.{KnownTab}
use Rattle.login_progress.specs.Login.{truths_in, is_granted_in}
use Rattle.login_progress.specs.declared.progress.Progress.{Progress}
use Rattle.login_progress.specs.Progress.{progress_of}
use Rattle.tab_asks.specs.declared.check.Check.TheVariants.{Fits}
use Rattle.tab_asks.specs.declared.check.Credential.{Credential}
use Rattle.root_asks.specs.declared.place.Place.{Place}
use Rattle.root_asks.specs.NewTab.{check_new_tab, facts_opened}
use Rattle.tab_asks.specs.Post.{check_post, check_form, accepted_facts}
use Rattle.tab_pages.specs.Visit.{check_tab}

-- a tab of a root with this opening, and what the facts say of it
abbrev pub known_at : RootKey → TabKey → Opening → List Fact → KnownTab
known_at root tab opening facts = record { root = root; tab = tab; opening = opening; state = tab_state root tab facts }

-- at this moment the facts say all that the login of this tab needs in order to complete for this user
pub record IsReady (facts : List Fact) (moment : ℕ) (root : RootKey) (tab : TabKey) (user : UserId) : Type 0 where
  -- the root has the tab, by its last opening
  pub opening : Opening
  pub is_opened : (tab_state root tab facts).opening ≡ Some opening
  -- it lives at the moment
  pub is_live : tab_is_live moment opening ≡ true
  -- the realm of the version with which it was opened is known
  pub realm : RealmParts
  pub is_realm : realm_of opening.version facts ≡ Some realm
  -- it hasn't completed after its opening
  pub is_unfinished : (tab_state root tab facts).completed ≡ false
  -- it isn't split: where a user was named in it and the root has a live session, they are one user
  pub is_whole : (named : UserId) (own : RootSession) → (tab_state root tab facts).named ≡ Some named
      → live_session moment (tab_state root tab facts) ≡ Some own → named ≡ own.user
  -- the login is this user's
  pub is_theirs : who_of moment (tab_state root tab facts) ≡ Some user
  -- the user's account isn't locked at the moment
  pub is_unlocked : is_locked (standing_of user facts) moment ≡ false
  -- nor closed, by an administrator or for good by its failures
  pub is_enabled : is_closed user facts ≡ false
  -- the realm's flow holds over what is true in the tab for the user
  pub holds :
      flow_holds (truths_in facts moment (known_at root tab opening facts) (Some user) realm.flow) realm.flow ≡ true
  -- nothing is pending for the user: each action that was required of the user was done since
  pub nothing_pending : first_pending user facts ≡ None
  -- the level that the tab asks is granted to the user
  pub is_granted : is_granted_in facts moment (known_at root tab opening facts) (Some user) realm.flow ≡ true

-- the user whose login the reply says is complete
abbrev pub done_for : What → Option UserId
done_for (whats.Done session user level) = Some user.id
done_for what = None

-- nothing refuses the open, and the user is ready in the tab that it opens
pub record IsReadyAtOpening (setting : Setting) (new : NewTab) (user : UserId) : Type 0 where
  -- where it is opened, and the level that it asks
  pub place : Place
  pub is_place : check_new_tab setting new ≡ Ok place
  -- with the opening behind the facts
  pub ready : IsReady (facts_opened setting place) setting.moment place.root place.tab user

-- how far the login of a tab has come
abbrev pub progress_at : Setting → KnownTab → Progress
progress_at setting known = progress_of setting.facts setting.moment known

-- the post is accepted: nothing refuses it, and its check fits
pub record IsAccepted (setting : Setting) (post : Post) (finding : Finding) : Type 0 where
  -- its tab
  pub known : KnownTab
  pub is_known : check_tab setting.facts setting.moment post.root post.tab ≡ Ok known
  -- the user whom its form names, if any
  pub named : Option UserId
  pub is_named : check_post setting.facts setting.moment known post ≡ Ok named
  -- the user whom its check fits, and the secret on which it rests
  pub user : UserId
  pub credential : Credential
  pub fits :
      check_form setting known (progress_at setting known) named post.form finding
      ≡ Ok (Fits user credential)

-- the facts with what an accepted post adds behind them: its evidence, or what its action does
abbrev pub facts_accepted : (setting : Setting) (post : Post) (finding : Finding) → IsAccepted setting post finding
    → List Fact
facts_accepted setting post finding accepted =
    setting.facts ++ accepted_facts setting accepted.known post.form finding accepted.user accepted.credential

-- the post is accepted, and the user is ready over the facts with what it adds
pub record IsReadyAfterPost (setting : Setting) (post : Post) (finding : Finding) (user : UserId) : Type 0 where
  pub accepted : IsAccepted setting post finding
  pub ready :
      IsReady (facts_accepted setting post finding accepted) setting.moment accepted.known.root accepted.known.tab user
