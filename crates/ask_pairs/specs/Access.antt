-- How an administrator comes in.
use Rattle.std.specs.Prelude.{ℕ, Bool, true, false, List, [], Option, Some, None, Result, Ok, Err, codes, if◌then◌else◌}
use Rattle.sha2.specs.Sha256.{sha256}
use Rattle.asks.specs.declared.ask.Access.{Access}
use Rattle.asks.specs.declared.ask.Access.TheVariants as accesses
use Rattle.ask_pairs.specs.declared.pairs.Pair.{Pair}
use Rattle.ask_pairs.specs.declared.place.Place.{Place}
use Rattle.ask_pairs.specs.declared.place.Place.TheVariants as places
use Rattle.ask_pairs.specs.Credentials.{has_replacement}
use Rattle.ask_pairs.specs.Pairs.{has, value_of}

-- by a key, which is any text of UTF-8; its digest is kept (FIPS 180-4, section 6.2)
abbrev pub access_by : Option (List ℕ) → Result Access Place
access_by (Some key) = if has_replacement key then Err places.Key else Ok (accesses.Key (sha256 key))
access_by None = Err places.Key

-- an absent key counts as the empty one
abbrev pub keyed_access : List Pair → Result Access Place
keyed_access pairs = if has (codes "key") pairs then access_by (value_of (codes "key") pairs) else access_by (Some [])

-- scripts and the command line need no key; other asks bring one
abbrev pub access_of : Bool → List Pair → Result Access Place
access_of true pairs = Ok accesses.Local
access_of false pairs = keyed_access pairs
