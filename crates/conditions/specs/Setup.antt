-- What a user has set up.
use Rattle.std.specs.Prelude.{Bool, true, false, not, ◌&&◌, ◌||◌, if◌then◌else◌, List, map, Option, Some, None}
use Rattle.std.specs.List.{list_all, list_any}
use Rattle.std.specs.Option.{option_map_or}
use Rattle.flow_tree.specs.declared.exec.Requirement.{Requirement}
use Rattle.flow_tree.specs.declared.exec.Kind.{Kind}
use Rattle.flow_tree.specs.declared.exec.Exec.{Exec, Exec-F, fold-Exec}
use Rattle.flow_tree.specs.declared.exec.Body.TheOpen.{Body-F}
use Rattle.flow_tree.specs.Faults.{is_condition}
use Rattle.flow_tree.specs.Flow.{is_required, is_alternative}
use Rattle.flow_tree.specs.Places.{shape_of}
use Rattle.conditions.specs.declared.account.AccountView.{AccountView}
use Rattle.conditions.specs.declared.setup.Setup.{Setup}
use Rattle.conditions.specs.Secrets.{secret_of, has_secret}

-- the user has the secret that an authenticator of this kind rests on, if it rests on one
abbrev pub kind_configured : AccountView → Kind → Bool
kind_configured a kind = option_map_or (has_secret a) (secret_of kind) true

-- each required one is configured, or with none some alternative is
abbrev pub configured_over : List Setup → Bool
configured_over ss =
    if list_any (λ (s : Setup). s.required) ss then list_all (λ (s : Setup). not s.required || s.configured) ss
    else list_any (λ (s : Setup). s.offered && s.configured) ss

-- what an execution is to a condition beside it; another condition is nothing to it
abbrev pub step_setup : Requirement → Bool → Setup
step_setup r configured = record { required = is_required r; offered = is_alternative r; configured = configured }

pub data Inner : Type 0 where
  Leaf : Kind → Inner
  Test : Inner
  Flow : List Setup → Inner

abbrev pub setup_in : AccountView → Requirement → Inner → Setup
setup_in a r (Leaf kind) = step_setup r (kind_configured a kind)
setup_in a r Test = record { required = false; offered = false; configured = false }
setup_in a r (Flow ss) = step_setup r (configured_over ss)

abbrev pub inner_body : Body-F Inner Setup → Inner
inner_body (Body-F.Auth kind) = Leaf kind
inner_body (Body-F.Cond c) = Test
inner_body (Body-F.Sub ss) = Flow ss

abbrev pub setup_step : AccountView → Exec-F Inner Setup → Setup
setup_step a e = setup_in a e.requirement e.body

unfoldable pub setup_of : AccountView → Exec → Setup
setup_of a e = fold-Exec Inner Setup inner_body (setup_step a) e

-- false where the user is unknown
abbrev pub configured : Option AccountView → List Exec → Bool
configured None es = false
configured (Some a) es = configured_over (map (setup_of a) es)

-- the user has set up what the execution asks for
abbrev pub is_set_up : AccountView → Exec → Bool
is_set_up a e = (setup_of a e).configured

-- a required execution that isn't a condition
abbrev pub is_required_step : Exec → Bool
is_required_step e = is_required e.requirement && not (is_condition (shape_of e))
