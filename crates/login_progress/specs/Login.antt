-- What a tab's flow is judged by.
use Rattle.std.specs.Prelude.{ℕ, Bool, List, Option, Some, None}
use Rattle.login_base.specs.declared.id.UserId.{UserId}
use Rattle.conditions.specs.declared.level.LevelView.{LevelView}
use Rattle.flow_tree.specs.declared.exec.Exec.{Exec}
use Rattle.flow_tree.specs.Leaves.{leaves_of}
use Rattle.flow_truths.specs.declared.view.LoginView.{LoginView}
use Rattle.flow_truths.specs.Granted.{is_granted}
use Rattle.flow_truths.specs.Truths.{truths}
use Rattle.facts.specs.declared.fact.Fact.{Fact}
use Rattle.facts.specs.declared.tabs.RootSession.{RootSession}
use Rattle.facts.specs.Levels.{levels_of}
use Rattle.facts.specs.Tabs.{live_session}
use Rattle.login_progress.specs.declared.known_tab.KnownTab.{KnownTab}
use Rattle.login_progress.specs.declared.login.Login.{Login}
use Rattle.login_progress.specs.Account.{account_of}
use Rattle.login_progress.specs.Evidence.{passed_of}

-- the levels that a live session has reached
abbrev pub levels_in : List Fact → Option RootSession → Option LevelView
levels_in facts None = None
levels_in facts (Some own) = Some (record { levels = levels_of own.session facts })

-- the user's account, the levels of the root's live session, the level that the tab asks, and what is passed in it
abbrev pub view_in : List Fact → ℕ → KnownTab → Option UserId → List Exec → LoginView
view_in facts moment known who tree =
    record {
      account = (account_of facts who).view;
      levels = levels_in facts (live_session moment known.state);
      level = known.opening.level;
      moment = moment;
      counted = passed_of facts known.tab who (leaves_of tree);
    }

unfoldable pub login_in : List Fact → ℕ → KnownTab → Option UserId → List Exec → Login
login_in facts moment known who tree = record { view = view_in facts moment known who tree; next_code = (account_of facts who).next_code }

-- what is true of a flow for the user in the tab
abbrev pub truths_in : List Fact → ℕ → KnownTab → Option UserId → List Exec → List (List ℕ)
truths_in facts moment known who tree = truths (login_in facts moment known who tree).view tree

-- the level that the tab asks is granted to the user
abbrev pub is_granted_in : List Fact → ℕ → KnownTab → Option UserId → List Exec → Bool
is_granted_in facts moment known who tree = is_granted (login_in facts moment known who tree).view (truths_in facts moment known who tree) tree
