-- The names of levels as a table.
use Rattle.std.specs.Prelude.{pos, List, [], ◌∷◌}
use Rattle.toml.specs.Data.{Members, no_members, member, integer}
use Rattle.realm_data.specs.declared.realm_parts.AcrLevel.{AcrLevel}

-- each level at its name, in their order
unfoldable pub level_members : List AcrLevel → Members
level_members [] = no_members
level_members (a ∷ acr) = member a.name (integer (pos a.level)) (level_members acr)
