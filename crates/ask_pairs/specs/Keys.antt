-- The keys of roots, tabs, pages, tokens and sessions in an ask.
use Rattle.std.specs.Prelude.{ℕ, List, Option, Some, None, option_and_then, ok_or, Result, Ok, Err, codes, if◌then◌else◌}
use Rattle.std.specs.Option.{option_map}
use Rattle.login_base.specs.IdText.{id_of}
use Rattle.login_base.specs.declared.id.Id.{Id}
use Rattle.login_base.specs.declared.id.RootKey.{RootKey}
use Rattle.ask_pairs.specs.declared.pairs.Pair.{Pair}
use Rattle.ask_pairs.specs.declared.place.Place.{Place}
use Rattle.ask_pairs.specs.declared.place.Place.TheVariants as places
use Rattle.ask_pairs.specs.Pairs.{has, value_of}
use Rattle.ask_pairs.specs.Places.{place_text}

-- the root of this text: one outside the grammar counts as absent
abbrev pub root_of : List ℕ → Option RootKey
root_of text = option_map (λ id. record { 0 = id }) (id_of text)

-- a root may be given, and two are malformed
abbrev pub root_from : Option (List ℕ) → Result (Option RootKey) Place
root_from (Some value) = Ok (root_of value)
root_from None = Err places.Root

abbrev pub root_given : List Pair → Result (Option RootKey) Place
root_given pairs = if has (codes "root") pairs then root_from (value_of (codes "root") pairs) else Ok None

-- an id is given at this place
abbrev pub id_given : Place → List Pair → Result Id Place
id_given place pairs = ok_or (option_and_then id_of (value_of (place_text place) pairs)) place
