-- What is carried from fact to fact.
use Rattle.std.specs.Prelude.{ℕ, ◌+◌, ◌-◌, ◌^◌, min, Bool, unwrap_or}
use Rattle.login_base.specs.declared.id.UserId.{UserId}
use Rattle.facts.specs.declared.fact.Fact.{Fact}
use Rattle.facts.specs.declared.fact.Fact.TheVariants as events
use Rattle.facts.specs.Accounts.{disabled_by}
use Rattle.account_states.specs.declared.state.Carried.{Carried}
use Rattle.account_states.specs.Standings.{failures_after}

-- whether this user is disabled after one more fact
abbrev pub disabled_after : UserId → Bool → Fact → Bool
disabled_after user disabled fact = unwrap_or (disabled_by user fact) disabled

abbrev pub carried_after : UserId → Carried → Fact → Carried
carried_after user carried fact =
    record {
      failures = failures_after user carried.failures fact;
      disabled = disabled_after user carried.disabled fact;
    }

-- how many facts put a user; the count stays at the greatest that it can hold
abbrev pub puts_after : ℕ → Fact → ℕ
puts_after n (events.UserPut user name roles) = min (n + 1) (2 ^ 64 - 1)
puts_after n event = n
