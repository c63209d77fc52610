-- How far a tab's login has come.
use Rattle.std.specs.Prelude.{ℕ, if◌then◌else◌, List, [], ◌∷◌, Option, Some, None}
use Rattle.login_base.specs.declared.id.UserId.{UserId}
use Rattle.flow_tree.specs.declared.exec.Exec.{Exec}
use Rattle.flow_tree.specs.Flow.{flow_holds, flow_needs}
use Rattle.flow_truths.specs.Granted.{is_granted, levels_reached}
use Rattle.flow_truths.specs.Truths.{truths}
use Rattle.realm_data.specs.declared.action.Action.{Action}
use Rattle.realm_data.specs.declared.realm_parts.RealmParts.{RealmParts}
use Rattle.facts.specs.declared.fact.Fact.{Fact}
use Rattle.asks.specs.declared.reply.Need.{Need}
use Rattle.facts.specs.Actions.{first_pending}
use Rattle.facts.specs.Realms.{realm_of}
use Rattle.facts.specs.Tabs.{who_of}
use Rattle.login_progress.specs.declared.known_tab.KnownTab.{KnownTab}
use Rattle.login_progress.specs.declared.login.Login.{Login}
use Rattle.login_progress.specs.declared.progress.Progress.{Progress}
use Rattle.login_progress.specs.declared.progress.Progress.TheVariants.{Ready, Asked, DeadEnd, LevelMissed, Required}
use Rattle.login_progress.specs.Asked.{asked_of, blocked}
use Rattle.login_progress.specs.Login.{login_in}

abbrev pub asked_or : List Need → Progress → Progress
asked_or [] other = other
asked_or (need ∷ asked) other = Asked (need ∷ asked)

-- what of the needs can be answered is asked; where nothing can, the login is blocked
abbrev pub lacking : Login → List Exec → List (List ℕ) → Progress
lacking login tree needs = asked_or (asked_of tree login needs) (blocked tree login.view.account needs)

-- the first action that is pending is asked; where none is, the login is ready to record these levels
abbrev pub unless_pending : Option Action → UserId → List ℕ → Progress
unless_pending None user levels = Ready user levels
unless_pending (Some action) user levels = Required user action

-- with the levels that a completion records: those up to the asked one that are reached now
abbrev pub granted_for : List Fact → Login → List (List ℕ) → List Exec → UserId → Progress
granted_for facts login held tree user =
    if is_granted login.view held tree then unless_pending (first_pending user facts) user (levels_reached held login.view.level tree)
    else LevelMissed login.view.level

-- a flow that holds lets a known user in to whom the asked level is granted and for whom no action is pending; for an
-- unknown one it is a dead end
abbrev pub holding : List Fact → Login → List (List ℕ) → List Exec → Option UserId → Progress
holding facts login held tree None = DeadEnd
holding facts login held tree (Some user) = granted_for facts login held tree user

abbrev pub progress_by : List Fact → Login → List (List ℕ) → List Exec → Option UserId → Progress
progress_by facts login held tree who =
    if flow_holds held tree then holding facts login held tree who else lacking login tree (flow_needs held tree)

unfoldable pub progress_in : List Fact → ℕ → KnownTab → Option UserId → List Exec → Progress
progress_in facts moment known who tree =
    let login = login_in facts moment known who tree in
    progress_by facts login (truths login.view tree) tree who

-- a realm that isn't known is a dead end
abbrev pub progress_under : List Fact → ℕ → KnownTab → Option RealmParts → Progress
progress_under facts moment known None = DeadEnd
progress_under facts moment known (Some realm) = progress_in facts moment known (who_of moment known.state) realm.flow

-- under the realm of the version with which the tab was opened
unfoldable pub progress_of : List Fact → ℕ → KnownTab → Progress
progress_of facts moment known = progress_under facts moment known (realm_of known.opening.version facts)

-- the executions that a progress asks
abbrev pub asked_in : Progress → List Need
asked_in (Asked asked) = asked
asked_in progress = []

-- the action that a progress asks
abbrev pub action_in : Progress → Option Action
action_in (Required user action) = Some action
action_in progress = None
