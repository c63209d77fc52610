-- The executions of a tree one after the other, in document order.
use Rattle.std.specs.Prelude.{ℕ, Bool, true, false, ◌+◌, List, [], ◌∷◌, Option, Some, None, if◌then◌else◌}
use Rattle.std.specs.Option.{option_or}
use Rattle.std.specs.Str.{bytes_eq}
use Rattle.std.specs.List.{flat_map}
use Rattle.flow_tree.specs.declared.exec.Requirement.{Requirement}
use Rattle.flow_tree.specs.declared.exec.Kind.{Kind}
use Rattle.flow_tree.specs.declared.exec.Kind.TheVariants.{Allow, Deny, Cookie, Username, Password, Form, Otp, Recovery}
use Rattle.flow_tree.specs.declared.exec.Cond.{Cond}
use Rattle.flow_tree.specs.declared.exec.Exec.{Exec, Exec-F, fold-Exec}
use Rattle.flow_tree.specs.declared.exec.Body.{out-Body}
use Rattle.flow_tree.specs.declared.exec.Body.TheOpen.{Body-F}

-- what an execution is, without what stands in it
pub data Shape : Type 0 where
  Leaf : Kind → Shape
  Test : Cond → Shape
  Flow : Shape

-- an execution without what stands in it
pub record Place : Type 0 where
  pub id : List ℕ
  pub requirement : Requirement
  pub shape : Shape
  pub depth : ℕ

abbrev pub shape_in : {A E : Type 0} → Body-F A E → Shape
shape_in (Body-F.Auth kind) = Leaf kind
shape_in (Body-F.Cond c) = Test c
shape_in (Body-F.Sub es) = Flow

abbrev pub shape_of : Exec → Shape
shape_of e = shape_in (out-Body e.body)

-- the execution alone, where it stands at a depth
abbrev pub place_of : ℕ → Exec → Place
place_of d e = record { id = e.id; requirement = e.requirement; shape = shape_of e; depth = d }

-- a body, and the executions in it where they stand at a depth
pub record Placing : Type 0 where
  pub shape : Shape
  pub below : ℕ → List Place

abbrev pub place_body : Body-F Placing (ℕ → List Place) → Placing
place_body (Body-F.Auth kind) = record { shape = Leaf kind; below = λ d. [] }
place_body (Body-F.Cond c) = record { shape = Test c; below = λ d. [] }
place_body (Body-F.Sub es) = record { shape = Flow; below = λ d. flat_map (λ (e : ℕ → List Place). e d) es }

abbrev pub place_exec : Exec-F Placing (ℕ → List Place) → ℕ → List Place
place_exec e d = record { id = e.id; requirement = e.requirement; shape = e.body.shape; depth = d } ∷ e.body.below (d + 1)

-- an execution that stands at a depth, then what stands in it
unfoldable pub placed_at : ℕ → Exec → List Place
placed_at d e = fold-Exec Placing (ℕ → List Place) place_body place_exec e d

abbrev pub places_at : ℕ → List Exec → List Place
places_at d es = flat_map (placed_at d) es

-- all executions of a tree; an execution of the tree itself has depth 1
abbrev pub places : List Exec → List Place
places es = places_at 1 es

abbrev pub same_kind : Kind → Kind → Bool
same_kind Allow Allow = true
same_kind Deny Deny = true
same_kind Cookie Cookie = true
same_kind Username Username = true
same_kind Password Password = true
same_kind Form Form = true
same_kind Otp Otp = true
same_kind Recovery Recovery = true
same_kind _ _ = false

-- it is an authenticator of this kind
abbrev pub is_of_kind : Kind → Shape → Bool
is_of_kind kind (Leaf own) = same_kind own kind
is_of_kind kind (Test c) = false
is_of_kind kind Flow = false

abbrev pub leaf_kind : Shape → Option Kind
leaf_kind (Leaf kind) = Some kind
leaf_kind (Test c) = None
leaf_kind Flow = None

-- the kind of the first authenticator of this id
unfoldable pub kind_among : List ℕ → List Place → Option Kind
kind_among id [] = None
kind_among id (p ∷ ps) = option_or (if bytes_eq p.id id then leaf_kind p.shape else None) (kind_among id ps)
