use Rattle.std.proofs.Common.{◌≡◌, ◌++◌, List, map, true, string_bytes}
use Rattle.std.specs.List.{list_all}
use Rattle.toml.specs.View.{members_view}
use Rattle.toml.proofs.Views.{Entry}
use Rattle.realm_data.specs.declared.realm_parts.AcrLevel.{AcrLevel}
use Rattle.realm_fields.specs.Levels.{levels_from, is_level_in_range}
use Rattle.realm_fields.proofs.ItemLemmas.{behind}
use Rattle.realm_fields.proofs.levels.levels_from.Given as goal

abbrev pub invariant-members : goal.invariant-members
invariant-members l =
    record {
      can : (goal.iterator-members).can_next l.key-iterator;
      finite : (goal.iterator-members).is_finite l.key-iterator;
      told : behind l.levels (levels_from l.path (members_view l.key-iterator)) ≡ levels_from l.path (members_view l.table.entries);
      range : list_all is_level_in_range l.levels ≡ true;
      done : List Entry;
      whole : l.table.entries ≡ done ++ l.key-iterator;
      names : map (λ (a : AcrLevel). a.name) l.levels ≡ map (λ (e : Entry). string_bytes e.0) done;
    }
