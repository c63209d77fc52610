-- The root in the cookies of a request (RFC 6265, section 4.2).
use Rattle.std.specs.Prelude.{ℕ, ◌==◌, nat_eq, List, [], ◌∷◌, drop, map, Option, Some, None, option_and_then, codes, if◌then◌else◌}
use Rattle.std.specs.List.{slice_split, starts_with}
use Rattle.login_base.specs.declared.id.RootKey.{RootKey}
use Rattle.ask_pairs.specs.Keys.{root_of}
use Rattle.web_requests.specs.declared.head.HeaderField.{HeaderField}
use Rattle.web_requests.specs.Fields.{is_field}
use Rattle.web_requests.specs.Texts.{trim_spaces}

abbrev pub or_next : {A : Type 0} → Option A → Option A → Option A
or_next (Some x) next = Some x
or_next None next = next

-- what the first item says that says anything
unfoldable pub first_some : {A B : Type 0} → (A → Option B) → List A → Option B
first_some f [] = None
first_some f (x ∷ xs) = or_next (f x) (first_some f xs)

-- the root of a pair that is named so; one outside the grammar counts as absent
abbrev pub root_pair : List ℕ → Option (Option RootKey)
root_pair pair = if starts_with nat_eq pair (codes "root=") then Some (root_of (drop 5 pair)) else None

-- pairs are parted by `;`, with spaces round them
abbrev pub part_root : List ℕ → Option (Option RootKey)
part_root part = root_pair (trim_spaces part)

abbrev pub parts : List ℕ → List (List ℕ)
parts value = slice_split (λ b. b == 59) value

abbrev pub field_root : HeaderField → Option (Option RootKey)
field_root field = if is_field (codes "cookie") field then first_some part_root (parts field.value) else None

abbrev pub or_absent : Option (Option RootKey) → Option RootKey
or_absent (Some root) = root
or_absent None = None

-- the first pair named `root` of all Cookie fields counts
abbrev pub root_cookie : List HeaderField → Option RootKey
root_cookie fields = or_absent (first_some field_root fields)
