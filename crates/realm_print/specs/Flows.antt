-- What a printed flow is read as, and how deep it nests.
use Rattle.std.specs.Prelude.{◌≡◌, ℕ, ◌-◌, ◌*◌, ◌≤◌, Bool, true, nat_le, List, [], ◌∷◌, Some, Ok, codes}
use Rattle.std.specs.List.{list_all}
use Rattle.toml.specs.Data.{Data, Members, string}
use Rattle.login_base.specs.Names.{is_name}
use Rattle.flow_tree.specs.declared.exec.Body.TheVariants.{Sub}
use Rattle.flow_tree.specs.declared.exec.Exec.{Exec}
use Rattle.flow_tree.specs.Places.{Place, placed_at, places_at}
use Rattle.flow_tree.specs.Ranges.{is_level_in_range}
use Rattle.realm_fields.specs.declared.words.ExecKind.{ExecKind}
use Rattle.realm_fields.specs.Words.{requirement_of, exec_kind_of}
use Rattle.realm_file.specs.Execs.{exec_fields, execs_in, steps_at}
use Rattle.realm_print.specs.Fields.{Fields, made}
use Rattle.realm_print.specs.Printed.{IsReadAs, IsPlain, ArePlain}

-- ---- what it is read as

-- wherever the table stands, it is read as this execution
abbrev pub IsExec : Exec → Members → Type 0
IsExec e ms = (path : List ℕ) → exec_fields path ms (steps_at ms) ≡ Ok e

-- the keys that every execution has
abbrev pub head : List ℕ → List ℕ → List ℕ → Fields
head kind requirement id =
    (codes "kind", Some (string kind)) ∷ (codes "require", Some (string requirement))
    ∷ (codes "id", Some (string id)) ∷ []

-- the table has the keys that every execution has, and no other
pub record IsHead (e : Exec) (kind : ExecKind) (ms : Members) : Type 0 where
  pub word : List ℕ
  pub requirement : List ℕ
  pub members : ms ≡ made (head word requirement e.id)
  pub kind_known : exec_kind_of word ≡ Some kind
  pub requirement_known : requirement_of requirement ≡ Some e.requirement
  pub named : is_name e.id ≡ true

-- ---- its places

-- each condition of a level there has a level and an age in their ranges
abbrev pub are_ranged : List Place → Bool
are_ranged ps = list_all (λ (p : Place). is_level_in_range p.shape) ps

-- none of them stands deeper than 8
abbrev pub are_shallow : List Place → Bool
are_shallow ps = list_all (λ (p : Place). nat_le p.depth 8) ps

-- at some depth of theirs, so at any
abbrev pub IsRanged : Exec → Type 0
IsRanged e = (d : ℕ) × (are_ranged (placed_at d e) ≡ true)

abbrev pub AreRanged : List Exec → Type 0
AreRanged es = (d : ℕ) × (are_ranged (places_at d es) ≡ true)

-- ---- how deep its data nest, by how deep it stands

-- a table of an execution at a depth
abbrev pub IsExecPlain : Exec → Members → Type 0
IsExecPlain e ms = (d : ℕ) → are_shallow (placed_at d e) ≡ true → ArePlain (17 - 2 * d) ms

-- an array of executions at a depth, which may be none at depth 9
abbrev pub IsFlowPlain : List Exec → Data → Type 0
IsFlowPlain es steps = (d : ℕ) → d ≤ 9 → are_shallow (places_at d es) ≡ true → IsPlain (19 - 2 * d) steps

-- ---- subflows

-- the execution is a flow of what the steps are read as
abbrev pub IsFlowOf : Exec → Data → Type 0
IsFlowOf e steps = (es : List Exec) × (e.body ≡ Sub es) × IsReadAs execs_in steps es
