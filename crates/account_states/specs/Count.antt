-- How many accounts there are.
use Rattle.std.specs.Prelude.{ℕ, Bool, nat_eq, nat_lt, List, Option, Some, None, filter_map, length}
use Rattle.std.specs.Ordering.{nat_cmp, eq_by_cmp}
use Rattle.std.specs.BTreeSet.{BTreeSet}
use Rattle.std.specs.Set.{distinct_count, IsUnion}
use Rattle.facts.specs.declared.fact.Fact.{Fact}
use Rattle.facts.specs.declared.fact.Fact.TheVariants as events

-- the serial of the user whom a fact puts
abbrev pub user_put : Fact → Option ℕ
user_put (events.UserPut user name roles) = Some user.0
user_put event = None

-- the serials of the users that are put, one for each time
abbrev pub users_put : List Fact → List ℕ
users_put facts = filter_map user_put facts

-- users are put less often than accounts may be
abbrev pub has_few_puts : List Fact → Bool
has_few_puts facts = nat_lt (length (users_put facts)) 100000

-- each user that is put counts once
unfoldable pub account_count : List Fact → ℕ
account_count facts = distinct_count nat_eq (users_put facts)

-- one more account may be
unfoldable pub has_room : List Fact → Bool
has_room facts = nat_lt (account_count facts) 100000

-- the new set has what the old one had, and these serials
abbrev pub Gains : BTreeSet ℕ → List ℕ → BTreeSet ℕ → Type 0
Gains old serials new = IsUnion (eq_by_cmp nat_cmp) old.keys serials new.keys
