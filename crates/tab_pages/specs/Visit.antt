-- Which tab an ask is about, and whether the tab may go on: each refusal is a check of its own.
use Rattle.std.specs.Prelude.{ℕ, ◌==◌, if◌then◌else◌, List, Option, Some, None, Result, Ok, Err}
use Rattle.login_base.specs.declared.id.RootKey.{RootKey}
use Rattle.login_base.specs.declared.id.TabKey.{TabKey}
use Rattle.login_base.specs.declared.id.UserId.{UserId}
use Rattle.facts.specs.declared.fact.Fact.{Fact}
use Rattle.facts.specs.declared.tabs.Opening.{Opening}
use Rattle.facts.specs.declared.tabs.RootSession.{RootSession}
use Rattle.facts.specs.declared.tabs.TabState.{TabState}
use Rattle.account_states.specs.States.{is_closed}
use Rattle.account_states.specs.Standings.{standing_of}
use Rattle.lockout.specs.declared.standing.Standing.{Standing}
use Rattle.lockout.specs.Standing.{is_locked}
use Rattle.facts.specs.Tabs.{tab_state, tab_is_known, tab_is_live, live_session, who_of}
use Rattle.hall_answers.specs.declared.refusal.Refusal.{Refusal}
use Rattle.hall_answers.specs.declared.refusal.Refusal.TheVariants.{UnknownTab, TabExpired, OtherUser, Finished, Locked, Disabled}
use Rattle.hall_answers.specs.Refusals.{◌>>=◌}
use Rattle.login_progress.specs.declared.known_tab.KnownTab.{KnownTab}

-- a tab that isn't forgotten at the moment
abbrev pub tab_with : ℕ → RootKey → TabKey → TabState → Option Opening → Result KnownTab Refusal
tab_with moment root tab state None = Err UnknownTab
tab_with moment root tab state (Some opening) =
    if tab_is_known moment opening then Ok (record { root = root; tab = tab; opening = opening; state = state }) else Err UnknownTab

unfoldable pub tab_in : List Fact → ℕ → RootKey → TabKey → Result KnownTab Refusal
tab_in facts moment root tab = tab_with moment root tab (tab_state root tab facts) (tab_state root tab facts).opening

-- a root is given, and it has the tab, which is known
unfoldable pub check_known : List Fact → ℕ → Option RootKey → TabKey → Result KnownTab Refusal
check_known facts moment None tab = Err UnknownTab
check_known facts moment (Some root) tab = tab_in facts moment root tab

-- the tab lives
abbrev pub check_live : ℕ → KnownTab → Result (Unit {0}) Refusal
check_live moment known = if tab_is_live moment known.opening then Ok tt else Err TabExpired

-- the tab that the ask is about
unfoldable pub check_tab : List Fact → ℕ → Option RootKey → TabKey → Result KnownTab Refusal
check_tab facts moment root tab = do
  known ← check_known facts moment root tab
  live ← check_live moment known
  Ok known

abbrev pub user_of : Option RootSession → Option UserId
user_of None = None
user_of (Some own) = Some own.user

-- a named user is the one of the live session, where both are there
abbrev pub same_user : Option UserId → Option UserId → Result (Unit {0}) Refusal
same_user (Some named) (Some own) = if named.0 == own.0 then Ok tt else Err (OtherUser named own)
same_user (Some named) None = Ok tt
same_user None own = Ok tt

-- the tab isn't split: the user that was named last in it is the one of its root's live session
unfoldable pub check_whole : ℕ → KnownTab → Result (Unit {0}) Refusal
check_whole moment known = same_user known.state.named (user_of (live_session moment known.state))

-- the tab hasn't completed
abbrev pub check_unfinished : KnownTab → Result (Unit {0}) Refusal
check_unfinished known = if known.state.completed then Err Finished else Ok tt

-- the failures of the account don't lock it at the moment
unfoldable pub check_unlocked : ℕ → Standing → Result (Unit {0}) Refusal
check_unlocked moment standing = if is_locked standing moment then Err (Locked standing.until) else Ok tt

-- the account isn't closed
unfoldable pub check_enabled : List Fact → UserId → Result (Unit {0}) Refusal
check_enabled facts user = if is_closed user facts then Err Disabled else Ok tt

-- the user is unknown, or has an account that is neither locked nor closed
unfoldable pub check_account : List Fact → ℕ → Option UserId → Result (Unit {0}) Refusal
check_account facts moment None = Ok tt
check_account facts moment (Some user) = do
  unlocked ← check_unlocked moment (standing_of user facts)
  check_enabled facts user

-- the tab may go on
unfoldable pub check_visit : List Fact → ℕ → KnownTab → Result (Unit {0}) Refusal
check_visit facts moment known = do
  whole ← check_whole moment known
  unfinished ← check_unfinished known
  check_account facts moment (who_of moment known.state)
