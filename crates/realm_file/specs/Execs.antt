-- The executions of a realm file.
use Rattle.std.specs.Prelude.{ℕ, ◌+◌, Bool, true, false, List, [], ◌∷◌, ◌++◌, Option, Some, None, unwrap_or, option_and_then, Result, Ok, Err, codes}
use Rattle.std.specs.Ordering.{nat_cmp, match_ordering}
use Rattle.std.specs.Cmp.Lexicographic.{slice_cmp}
use Rattle.toml.specs.Data.{Data, string, integer, float, boolean, datetime, array, table, as_str, Items, no_items, item, Members, no_members, member, get_member}
use Rattle.flow_tree.specs.declared.exec.Body.{Body}
use Rattle.flow_tree.specs.declared.exec.Body.TheVariants.{Auth, Cond, Sub}
use Rattle.flow_tree.specs.declared.exec.Cond.{Cond as Condition}
use Rattle.flow_tree.specs.declared.exec.Cond.TheVariants as conds
use Rattle.flow_tree.specs.declared.exec.Exec.{Exec}
use Rattle.flow_tree.specs.declared.exec.Requirement.{Requirement}
use Rattle.realm_fields.specs.declared.fault.RealmFault.TheVariants.{Missing, WrongKind}
use Rattle.realm_fields.specs.declared.words.ExecKind.{ExecKind}
use Rattle.realm_fields.specs.declared.words.ExecKind.TheVariants as kinds
use Rattle.realm_fields.specs.Paths.{key_path, item_path}
use Rattle.realm_fields.specs.Reading.{Read, Reader, ◌>>=◌, flag_in, word_in, number_in, required, optional, is_among, only_keys}
use Rattle.realm_fields.specs.Words.{name_of, requirement_of, exec_kind_of}

-- ---- keys

-- the kind that an execution's table names, if it names one
abbrev pub kind_in : Members → Option ExecKind
kind_in ms = option_and_then exec_kind_of (option_and_then as_str (get_member (codes "kind") ms))

-- what an execution has besides, by its kind
abbrev pub kind_keys : Option ExecKind → List (List ℕ)
kind_keys None = []
kind_keys (Some (kinds.Auth kind)) = []
kind_keys (Some kinds.Configured) = []
kind_keys (Some kinds.Role) = codes "role" ∷ codes "negate" ∷ []
kind_keys (Some kinds.Level) = codes "level" ∷ codes "age" ∷ []
kind_keys (Some kinds.Flow) = codes "steps" ∷ []

abbrev pub exec_keys : Option ExecKind → List (List ℕ)
exec_keys kind = codes "id" ∷ codes "require" ∷ codes "kind" ∷ kind_keys kind

abbrev pub check_exec_keys : List ℕ → Members → Read (Unit {0})
check_exec_keys path ms = only_keys (is_among (exec_keys (kind_in ms))) path ms

-- ---- conditions

-- `negate` is false where it is absent
unfoldable pub role_in : List ℕ → Members → Read Condition
role_in path ms = do
  role ← required (word_in name_of) path (codes "role") ms
  negate ← optional flag_in path (codes "negate") ms
  Ok (conds.Role role (unwrap_or negate false))

-- the age is in seconds
unfoldable pub level_in : List ℕ → Members → Read Condition
level_in path ms = do
  level ← required (number_in 1 1000) path (codes "level") ms
  age ← required (number_in 0 31536000) path (codes "age") ms
  Ok (conds.Level level age)

-- ---- executions, where the steps of a flow stand for these at their path

abbrev pub Steps : Type 0
Steps = List ℕ → Read (List Exec)

abbrev pub body_fields : List ℕ → Members → Steps → ExecKind → Read Body
body_fields path ms steps (kinds.Auth kind) = Ok (Auth kind)
body_fields path ms steps kinds.Configured = Ok (Cond conds.Configured)
body_fields path ms steps kinds.Role = role_in path ms >>= λ cond. Ok (Cond cond)
body_fields path ms steps kinds.Level = level_in path ms >>= λ cond. Ok (Cond cond)
body_fields path ms steps kinds.Flow = steps (key_path path (codes "steps")) >>= λ execs. Ok (Sub execs)

unfoldable pub exec_fields : List ℕ → Members → Steps → Read Exec
exec_fields path ms steps = do
  keys ← check_exec_keys path ms
  id ← required (word_in name_of) path (codes "id") ms
  requirement ← required (word_in requirement_of) path (codes "require") ms
  kind ← required (word_in exec_kind_of) path (codes "kind") ms
  body ← body_fields path ms steps kind
  Ok (record { id = id; requirement = requirement; body = body })

-- ---- arrays of executions

abbrev pub more_execs : Exec → Read (List Exec) → Read (List Exec)
more_execs exec read = read >>= λ execs. Ok (exec ∷ execs)

unfoldable mutual
  -- an execution is a table
  pub exec_in : List ℕ → Data → Read Exec
  exec_in path (table ms) = exec_fields path ms (steps_at ms)
  exec_in path (string s) = Err (WrongKind path)
  exec_in path (integer z) = Err (WrongKind path)
  exec_in path (float x) = Err (WrongKind path)
  exec_in path (boolean b) = Err (WrongKind path)
  exec_in path (datetime dt) = Err (WrongKind path)
  exec_in path (array ds) = Err (WrongKind path)

  -- some executions are an array
  pub execs_in : List ℕ → Data → Read (List Exec)
  execs_in path (array ds) = execs_from path 0 ds
  execs_in path (string s) = Err (WrongKind path)
  execs_in path (integer z) = Err (WrongKind path)
  execs_in path (float x) = Err (WrongKind path)
  execs_in path (boolean b) = Err (WrongKind path)
  execs_in path (datetime dt) = Err (WrongKind path)
  execs_in path (table ms) = Err (WrongKind path)

  pub execs_from : List ℕ → ℕ → Items → Read (List Exec)
  execs_from path i no_items = Ok []
  execs_from path i (item d ds) = exec_in (item_path path i) d >>= λ exec. more_execs exec (execs_from path (i + 1) ds)

  -- what the members have at the key `steps`, which has to be there
  pub steps_at : Members → List ℕ → Read (List Exec)
  steps_at no_members path = Err (Missing path)
  steps_at (member key d ms) path =
      match_ordering (slice_cmp nat_cmp (codes "steps") key) (steps_at ms path) (execs_in path d) (steps_at ms path)
