-- How many roots are known.
use Rattle.std.specs.Prelude.{ℕ, List, ◌∷◌, [], map, filter_map, Option, None, if◌then◌else◌}
use Rattle.std.specs.BTreeSet.{BTreeSet}
use Rattle.std.specs.Cmp.Lexicographic.{slice_cmp}
use Rattle.std.specs.Ordering.{nat_cmp, eq_by_cmp}
use Rattle.std.specs.Set.{IsUnion}
use Rattle.login_base.specs.declared.id.RootKey.{RootKey}
use Rattle.facts.specs.declared.fact.Fact.{Fact}
use Rattle.facts.specs.declared.fact.Fact.TheVariants as events
use Rattle.facts.specs.Roots.{opens_known, opened_root, if_known}

-- the root that a fact can make known: by a tab that is known, or by a session
abbrev pub root_made : ℕ → Fact → Option RootKey
root_made now (events.Session session root user moment idle most) = root
root_made now event = if opens_known now event then opened_root event else None

-- one for each such fact
abbrev pub roots_made : ℕ → List Fact → List RootKey
roots_made now facts = filter_map (root_made now) facts

-- the root that a fact makes known among all facts
abbrev pub known_root_made : ℕ → List Fact → Fact → Option RootKey
known_root_made now all fact = if_known now all (root_made now fact)

-- the numbers by which roots are told apart
abbrev pub key_of : RootKey → List ℕ
key_of root = root.0.serial ∷ root.0.high ∷ root.0.low ∷ []

-- those of the roots that these facts make known, one for each such fact
abbrev pub keys_noted : ℕ → List Fact → List Fact → List (List ℕ)
keys_noted now all facts = map key_of (filter_map (known_root_made now all) facts)

-- the new set has what the old one had, and these keys
abbrev pub Gains : BTreeSet (List ℕ) → List (List ℕ) → BTreeSet (List ℕ) → Type 0
Gains old keys new = IsUnion (eq_by_cmp (slice_cmp nat_cmp)) old.keys keys new.keys
