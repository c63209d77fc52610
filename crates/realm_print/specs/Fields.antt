-- Tables that are made key by key.
use Rattle.std.specs.Prelude.{ℕ, List, [], ◌∷◌, Option, Some, None}
use Rattle.std.specs.Ordering.{nat_cmp, match_ordering}
use Rattle.std.specs.Cmp.Lexicographic.{slice_cmp}
use Rattle.toml.specs.Data.{Data, Members, no_members, member}

-- the members with a key more, at its place in the order
abbrev pub with_member : List ℕ → Data → Members → Members
with_member k d no_members = member k d no_members
with_member k d (member l e ms) =
    match_ordering (slice_cmp nat_cmp k l)
    (member k d (member l e ms))
    (member l d ms)
    (member l e (with_member k d ms))

-- the members, with a key more where something stands there
abbrev pub with_some : List ℕ → Option Data → Members → Members
with_some k None ms = ms
with_some k (Some d) ms = with_member k d ms

-- keys, each with what stands there, if anything; the last that was put stands first
abbrev pub Fields : Type 0
Fields = List (List ℕ × Option Data)

-- the table of the keys where something stands
unfoldable pub made : Fields → Members
made [] = no_members
made (f ∷ fs) = with_some f.0 f.1 (made fs)
