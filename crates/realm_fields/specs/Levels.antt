-- The names of levels: the table `acr`.
use Rattle.std.specs.Prelude.{ℕ, Bool, ◌&&◌, nat_le, List, [], ◌∷◌, Result, Ok, Err, if◌then◌else◌}
use Rattle.toml.specs.Data.{Data, Members, no_members, member}
use Rattle.login_base.specs.Names.{is_name}
use Rattle.realm_data.specs.declared.realm_parts.AcrLevel.{AcrLevel}
use Rattle.realm_fields.specs.declared.fault.RealmFault.TheVariants.{Unknown}
use Rattle.realm_fields.specs.Paths.{key_path}
use Rattle.realm_fields.specs.Reading.{Read, Reader, ◌>>=◌, table_in, number_in, only_keys}

abbrev pub name_at : List ℕ → List ℕ → Read (List ℕ)
name_at path key = if is_name key then Ok key else Err (Unknown (key_path path key))

-- the level that a key names
unfoldable pub level_named : List ℕ → List ℕ → Data → Read AcrLevel
level_named path key d = do
  name ← name_at path key
  level ← number_in 0 1000 (key_path path key) d
  Ok (record { name = name; level = level })

unfoldable pub levels_from : List ℕ → Members → Read (List AcrLevel)
levels_from path no_members = Ok []
levels_from path (member key d ms) = do
  level ← level_named path key d
  levels ← levels_from path ms
  Ok (level ∷ levels)

-- keys that aren't names are unknown; the others go in byte order
abbrev pub levels_fields : List ℕ → Members → Read (List AcrLevel)
levels_fields path ms = only_keys is_name path ms >>= λ keys. levels_from path ms

abbrev pub levels_in : Reader (List AcrLevel)
levels_in path d = table_in path d >>= levels_fields path

abbrev pub is_level_in_range : AcrLevel → Bool
is_level_in_range a = is_name a.name && nat_le a.level 1000
