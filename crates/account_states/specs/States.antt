-- How accounts stand.
use Rattle.std.specs.Prelude.{ℕ, Bool, false, ◌||◌, ◌==◌, List, Option, Some, None, if◌then◌else◌}
use Rattle.lockout.specs.Standing.{is_locked}
use Rattle.login_base.specs.declared.id.UserId.{UserId}
use Rattle.facts.specs.declared.fact.Fact.{Fact}
use Rattle.facts.specs.declared.fact.Fact.TheVariants as events
use Rattle.facts.specs.Accounts.{is_disabled}
use Rattle.account_states.specs.declared.state.AccountState.{AccountState}
use Rattle.account_states.specs.Standings.{standing_of, moves_standing}

abbrev pub state_of : UserId → List Fact → AccountState
state_of user facts = record { standing = standing_of user facts; disabled = is_disabled user facts }

-- failures closed it for good, or an administrator disabled it
abbrev pub is_closed_in : AccountState → Bool
is_closed_in state = state.standing.permanent || state.disabled

abbrev pub is_closed : UserId → List Fact → Bool
is_closed user facts = is_closed_in (state_of user facts)

-- the end of its lock, where it is locked now
abbrev pub until_in : ℕ → AccountState → Option ℕ
until_in now state = if is_locked state.standing now then Some state.standing.until else None

abbrev pub locked_until : ℕ → UserId → List Fact → Option ℕ
locked_until now user facts = until_in now (state_of user facts)

-- a fact that disables this user
abbrev pub is_disabling : UserId → Fact → Bool
is_disabling user (events.Disabled of) = of.0 == user.0
is_disabling user event = false

-- it can change how this user's account stands
abbrev pub moves_state : UserId → Fact → Bool
moves_state user fact = is_disabling user fact || moves_standing user fact
