-- The rules of a realm file that go beyond its tables.
use Rattle.std.specs.Prelude.{ℕ, ◌+◌, Bool, not, is_some, ◌||◌, ◌==◌, List, [], ◌∷◌, ◌++◌, Option, Some, None, option_map, Result, Ok, Err, codes, if◌then◌else◌}
use Rattle.flow_tree.specs.declared.exec.Exec.{Exec}
use Rattle.flow_tree.specs.declared.fault.TreeFault.{TreeFault}
use Rattle.flow_tree.specs.Faults.{fault_of}
use Rattle.flow_tree.specs.Levels.{live_age}
use Rattle.realm_data.specs.declared.realm_parts.AcrLevel.{AcrLevel}
use Rattle.realm_data.specs.declared.realm_parts.Client.{Client}
use Rattle.realm_data.specs.declared.realm_parts.RealmUser.{RealmUser}
use Rattle.realm_data.specs.declared.realm_parts.RealmParts.{RealmParts}
use Rattle.realm_fields.specs.declared.fault.RealmFault.TheVariants.{Tree, Doubled, UnboundLevel}
use Rattle.realm_fields.specs.Paths.{key_path, item_path}
use Rattle.realm_fields.specs.Reading.{Read, ◌>>=◌, is_among}

-- ---- the flow is a tree

abbrev pub no_fault : Option TreeFault → Read (Unit {0})
no_fault None = Ok tt
no_fault (Some fault) = Err (Tree fault)

abbrev pub is_tree : List Exec → Read (Unit {0})
is_tree flow = no_fault (fault_of flow)

-- ---- no two clients have one id, and no two users one name

-- the place of the first of these items, which stand from i on, whose name is among the earlier ones
unfoldable pub doubled_from : {A : Type 0} → (A → List ℕ) → List (List ℕ) → ℕ → List A → Option ℕ
doubled_from name earlier i [] = None
doubled_from name earlier i (item ∷ items) =
    if is_among earlier (name item) then Some i else doubled_from name (earlier ++ name item ∷ []) (i + 1) items

abbrev pub doubled_path : List ℕ → List ℕ → ℕ → List ℕ
doubled_path list key i = key_path (item_path list i) key

abbrev pub not_doubled : Option (List ℕ) → Read (Unit {0})
not_doubled None = Ok tt
not_doubled (Some path) = Err (Doubled path)

abbrev pub ids_apart : List Client → Read (Unit {0})
ids_apart clients =
    not_doubled (option_map (doubled_path (codes "client") (codes "id")) (doubled_from (λ (c : Client). c.id) [] 0 clients))

abbrev pub users_apart : List RealmUser → Read (Unit {0})
users_apart users =
    not_doubled (option_map (doubled_path (codes "user") (codes "name")) (doubled_from (λ (u : RealmUser). u.name) [] 0 users))

abbrev pub names_apart : List Client → List RealmUser → Read (Unit {0})
names_apart clients users = ids_apart clients >>= λ ids. users_apart users

-- ---- each level above 0 has a live condition

abbrev pub is_unbound : List Exec → ℕ → Bool
is_unbound flow level = not (level == 0 || is_some (live_age level flow))

-- the first in byte order that has none
unfoldable pub acr_bound : List Exec → List AcrLevel → Read (Unit {0})
acr_bound flow [] = Ok tt
acr_bound flow (a ∷ acr) = if is_unbound flow a.level then Err (UnboundLevel (key_path (codes "acr") a.name)) else acr_bound flow acr

-- the first of these clients, which stand from i on, that has none
unfoldable pub clients_bound : List Exec → ℕ → List Client → Read (Unit {0})
clients_bound flow i [] = Ok tt
clients_bound flow i (c ∷ clients) =
    if is_unbound flow c.level then Err (UnboundLevel (key_path (item_path (codes "client") i) (codes "level")))
    else clients_bound flow (i + 1) clients

abbrev pub levels_bound : List Exec → List AcrLevel → List Client → Read (Unit {0})
levels_bound flow acr clients = acr_bound flow acr >>= λ bound. clients_bound flow 0 clients

-- ---- all of them

-- the rules in the order in which they are looked for
unfoldable pub by_rules : RealmParts → Read RealmParts
by_rules r = do
  tree ← is_tree r.flow
  apart ← names_apart r.clients r.users
  bound ← levels_bound r.flow r.acr r.clients
  Ok r
