-- What the failures of a user have come to, fact by fact.
use Rattle.std.specs.Prelude.{Bool, false, ◌||◌, ◌==◌, List, fold, if◌then◌else◌}
use Rattle.lockout.specs.declared.policy.Policy.{Policy}
use Rattle.lockout.specs.declared.standing.Standing.{Standing}
use Rattle.lockout.specs.Standing.{no_failures, struck}
use Rattle.login_base.specs.declared.id.UserId.{UserId}
use Rattle.realm_data.specs.RealmBuiltin.{builtin_lockout}
use Rattle.facts.specs.declared.fact.Fact.{Fact}
use Rattle.facts.specs.declared.fact.Fact.TheVariants as events
use Rattle.account_states.specs.declared.failures.Failures.{Failures}

-- a realm that is put brings its policy
abbrev pub policy_with : Policy → Fact → Policy
policy_with policy (events.RealmPut version realm) = realm.lockout
policy_with policy event = policy

-- A failure of this user counts by the policy before it. A login that completes, and an administrator who enables
-- the account, clear its failures; an opening value stands in the place of all before it.
abbrev pub standing_with : UserId → Policy → Standing → Fact → Standing
standing_with user policy standing (events.Failed of moment) =
    if of.0 == user.0 then struck policy moment standing else standing
standing_with user policy standing (events.Completed tab of session moment) =
    if of.0 == user.0 then no_failures else standing
standing_with user policy standing (events.Enabled of) = if of.0 == user.0 then no_failures else standing
standing_with user policy standing (events.Standing of value) = if of.0 == user.0 then value else standing
standing_with user policy standing event = standing

abbrev pub failures_after : UserId → Failures → Fact → Failures
failures_after user before fact =
    record {
      policy = policy_with before.policy fact;
      standing = standing_with user before.policy before.standing fact;
    }

-- before the first fact: none, under the policy of the built-in realm
abbrev pub no_facts : Failures
no_facts = record { policy = builtin_lockout; standing = no_failures }

-- what the failures of a user have come to, and the policy by which the next one counts
unfoldable pub failures_of : UserId → List Fact → Failures
failures_of user facts = fold (failures_after user) no_facts facts

-- what the failures of a user have come to
unfoldable pub standing_of : UserId → List Fact → Standing
standing_of user facts = (failures_of user facts).standing

-- ---- the facts that matter

-- a failed attempt on this user
abbrev pub is_failure : UserId → Fact → Bool
is_failure user (events.Failed of moment) = of.0 == user.0
is_failure user event = false

-- it gives this user another standing, whatever the one before was
abbrev pub renews : UserId → Fact → Bool
renews user (events.Completed tab of session moment) = of.0 == user.0
renews user (events.Enabled of) = of.0 == user.0
renews user (events.Standing of value) = of.0 == user.0
renews user event = false

-- it can change the standing of this user
abbrev pub moves_standing : UserId → Fact → Bool
moves_standing user fact = is_failure user fact || renews user fact
