-- Flows that are read back.
use Rattle.std.proofs.Common.{◌≡◌, ℕ, pos, zero, suc, ◌+◌, ◌-◌, ◌*◌, ◌≤◌, ◌<◌, Bool, true, false, ◌&&◌, nat_le, List, [], ◌∷◌, ◌++◌, length, get_or, Option, Some, Ok, codes, refl, sym, ap, ◌∙◌, arith}
use Rattle.std.specs.List.{list_all}
use Rattle.std.proofs.lemmas.Bool.{and_parts, leb-true}
use Rattle.std.proofs.lemmas.List.Folds.{list_all-append}
use Rattle.toml.specs.Data.{Data, string, integer, array, table, Items, no_items, item, Members}
use Rattle.toml.specs.View.{view, items_view}
use Rattle.toml.specs.declared.value.Value.{Value}
use Rattle.login_base.specs.Names.{is_name}
use Rattle.flow_tree.specs.declared.exec.Body.TheVariants.{Auth, Cond, Sub}
use Rattle.flow_tree.specs.declared.exec.Cond.{Cond as Condition}
use Rattle.flow_tree.specs.declared.exec.Cond.TheVariants as conds
use Rattle.flow_tree.specs.declared.exec.Kind.{Kind}
use Rattle.flow_tree.specs.declared.exec.Exec.{Exec}
use Rattle.flow_tree.specs.Places.{Place, place_of, placed_at, places_at}
use Rattle.flow_tree.specs.Ranges.{is_in_range}
use Rattle.flow_tree.proofs.Placing.{placed_first, placed_test, placed_flow, shape_test}
use Rattle.realm_fields.specs.declared.words.ExecKind.{ExecKind}
use Rattle.realm_fields.specs.declared.words.ExecKind.TheVariants as kinds
use Rattle.realm_fields.specs.Paths.{key_path}
use Rattle.realm_fields.specs.Reading.{is_among, required, optional, word_in, number_in, flag_in, items_from}
use Rattle.realm_fields.specs.Words.{name_of, requirement_of, exec_kind_of}
use Rattle.realm_file.specs.Execs.{exec_in, execs_in, execs_from, steps_at, kind_in, exec_keys, check_exec_keys, exec_fields, body_fields, role_in, level_in}
use Rattle.realm_file.proofs.ExecLemmas.{exec_table, execs_array, steps_member}
use Rattle.realm_print.specs.Fields.{Fields, made, with_some}
use Rattle.realm_print.specs.Flows.{IsExec, IsHead, IsFlowOf, IsRanged, AreRanged, IsExecPlain, IsFlowPlain, are_ranged, are_shallow, head}
use Rattle.realm_print.specs.Printed.{IsReadAs, IsFlag, IsPlain, ArePlain}
use Rattle.realm_print.proofs.FieldLemmas.{found, get_made, only_made, required_made, optional_made, lone}
use Rattle.realm_print.proofs.ListLemmas.{AreReadAs, AreItemsPlain, plain_last, no_plain}
use Rattle.realm_print.proofs.WordLemmas.{word_back, number_back, upto_back, name_known}

-- ---- one execution

-- the first fields of an execution are read, and its body by its kind
module _ (e : Exec) (kind : ExecKind) (fs : Fields) (word requirement : List ℕ) (kind_known : exec_kind_of word ≡ Some kind)
    (requirement_known : requirement_of requirement ≡ Some e.requirement) (named : is_name e.id ≡ true)
    (kind_at : found (codes "kind") fs ≡ Some (string word)) (requirement_at : found (codes "require") fs ≡ Some (string requirement))
    (id_at : found (codes "id") fs ≡ Some (string e.id))
    (keys : list_all (λ (f : List ℕ × Option Data). is_among (exec_keys (Some kind)) f.0) fs ≡ true) where
  kind_is : kind_in (made fs) ≡ Some kind
  kind_is = rw (get_made (codes "kind") fs, kind_at) kind_known

  pub exec_back : (path : List ℕ) → body_fields path (made fs) (steps_at (made fs)) kind ≡ Ok e.body → exec_fields path (made fs) (steps_at (made fs)) ≡ Ok e
  unfolding exec_fields
  exec_back path body =
      let all_known : check_exec_keys path (made fs) ≡ Ok tt = rw kind_is (only_made (is_among (exec_keys (Some kind))) path fs keys) in
      let id : required (word_in name_of) path (codes "id") (made fs) ≡ Ok e.id =
      required_made path (codes "id") fs (word_in name_of) (string e.id) e.id id_at (word_back name_of e.id e.id (name_known e.id named)) in
      let need : required (word_in requirement_of) path (codes "require") (made fs) ≡ Ok e.requirement =
      required_made path (codes "require") fs (word_in requirement_of) (string requirement) e.requirement requirement_at (word_back requirement_of requirement e.requirement requirement_known) in
      let sort : required (word_in exec_kind_of) path (codes "kind") (made fs) ≡ Ok kind =
      required_made path (codes "kind") fs (word_in exec_kind_of) (string word) kind kind_at (word_back exec_kind_of word kind kind_known) in
      rw (all_known, id, need, sort, body) refl

pub leaf_back : (e : Exec) (kind : Kind) (ms : Members) → e.body ≡ Auth kind → IsHead e (kinds.Auth kind) ms → IsExec e ms
leaf_back e kind ms body h =
    rw h.members (λ path. exec_back e (kinds.Auth kind) (head h.word h.requirement e.id) h.word h.requirement h.kind_known h.requirement_known h.named refl refl refl refl path (ap (λ b. Ok b) (sym body)))

pub configured_back : (e : Exec) (ms : Members) → e.body ≡ Cond conds.Configured → IsHead e kinds.Configured ms → IsExec e ms
configured_back e ms body h =
    rw h.members (λ path. exec_back e kinds.Configured (head h.word h.requirement e.id) h.word h.requirement h.kind_known h.requirement_known h.named refl refl refl refl path (ap (λ b. Ok b) (sym body)))

-- ---- conditions

role_fields : (fs : Fields) (role : List ℕ) (negate : Bool) (d : Option Data) (path : List ℕ) → is_name role ≡ true → IsFlag false d negate
    → found (codes "role") fs ≡ Some (string role) → found (codes "negate") fs ≡ d → role_in path (made fs) ≡ Ok (conds.Role role negate)
unfolding role_in
role_fields fs role negate d path named flag role_at negate_at =
    let who : required (word_in name_of) path (codes "role") (made fs) ≡ Ok role =
    required_made path (codes "role") fs (word_in name_of) (string role) role role_at (word_back name_of role role (name_known role named)) in
    let how : optional flag_in path (codes "negate") (made fs) ≡ Ok flag.0 = optional_made path (codes "negate") fs flag_in d flag.0 negate_at flag.1 in
    rw (who, how, flag.2) refl

level_fields : (fs : Fields) (level age : ℕ) (path : List ℕ) → is_in_range (conds.Level level age) ≡ true
    → found (codes "level") fs ≡ Some (integer (pos level)) → found (codes "age") fs ≡ Some (integer (pos age)) → level_in path (made fs) ≡ Ok (conds.Level level age)
unfolding level_in
level_fields fs level age path range level_at age_at =
    let parts = and_parts (nat_le 1 level && nat_le level 1000) (nat_le age 31536000) range in
    let first : required (number_in 1 1000) path (codes "level") (made fs) ≡ Ok level =
    required_made path (codes "level") fs (number_in 1 1000) (integer (pos level)) level level_at (number_back 1 1000 level parts.0) in
    let second : required (number_in 0 31536000) path (codes "age") (made fs) ≡ Ok age =
    required_made path (codes "age") fs (number_in 0 31536000) (integer (pos age)) age age_at (upto_back 31536000 age parts.1) in
    rw (first, second) refl

pub role_back : (e : Exec) (role : List ℕ) (negate : Bool) (d : Option Data) (ms : Members) → e.body ≡ Cond (conds.Role role negate) → IsHead e kinds.Role ms
    → is_name role ≡ true → IsFlag false d negate → IsExec e (with_some (codes "negate") d (with_some (codes "role") (Some (string role)) ms))
unfolding made
role_back e role negate d ms body h named flag =
    let fs : Fields = (codes "negate", d) ∷ (codes "role", Some (string role)) ∷ head h.word h.requirement e.id in
    rw h.members (λ path. exec_back e kinds.Role fs h.word h.requirement h.kind_known h.requirement_known h.named refl refl refl refl path
    (rw (role_fields fs role negate d path named flag refl (lone d)) (ap (λ b. Ok b) (sym body))))

pub level_back : (e : Exec) (level age : ℕ) (ms : Members) → e.body ≡ Cond (conds.Level level age) → IsHead e kinds.Level ms → is_in_range (conds.Level level age) ≡ true
    → IsExec e (with_some (codes "age") (Some (integer (pos age))) (with_some (codes "level") (Some (integer (pos level))) ms))
unfolding made
level_back e level age ms body h range =
    let fs : Fields = (codes "age", Some (integer (pos age))) ∷ (codes "level", Some (integer (pos level))) ∷ head h.word h.requirement e.id in
    rw h.members (λ path. exec_back e kinds.Level fs h.word h.requirement h.kind_known h.requirement_known h.named refl refl refl refl path
    (rw (level_fields fs level age path range refl refl) (ap (λ b. Ok b) (sym body))))

steps_back : (fs : Fields) (steps : Data) (es : List Exec) (path : List ℕ) → found (codes "steps") fs ≡ Some steps → IsReadAs execs_in steps es
    → steps_at (made fs) path ≡ Ok es
steps_back fs steps es path at back = rw (steps_member (made fs) path, get_made (codes "steps") fs, at) (back path)

pub flow_back : (e : Exec) (steps : Data) (ms : Members) → IsFlowOf e steps → IsHead e kinds.Flow ms → IsExec e (with_some (codes "steps") (Some steps) ms)
unfolding made
flow_back e steps ms flow h =
    let fs : Fields = (codes "steps", Some steps) ∷ head h.word h.requirement e.id in
    rw h.members (λ path. exec_back e kinds.Flow fs h.word h.requirement h.kind_known h.requirement_known h.named refl refl refl refl path
    (rw (steps_back fs steps flow.0 (key_path path (codes "steps")) refl flow.2) (ap (λ b. Ok b) (sym flow.1))))

-- ---- arrays of executions

-- an execution of an array is read as its table is
pub item_back : (e : Exec) (ms : Members) → IsExec e ms → IsReadAs exec_in (table ms) e
item_back e ms h = λ path. exec_table path (table ms) ∙ h path

listed_from : (path : List ℕ) (i : ℕ) (ds : Items) → execs_from path i ds ≡ items_from exec_in path i ds
unfolding execs_from items_from
listed_from path i no_items = refl
listed_from path i (item d ds) = rw (listed_from path (i + 1) ds) refl

pub array_back : (ds : Items) (es : List Exec) → AreReadAs exec_in ds es → IsReadAs execs_in (array ds) es
array_back ds es h = λ path. execs_array path (array ds) ∙ listed_from path 0 ds ∙ h path

-- ---- ranges, from the whole to its parts

pub cond_ranged : (e : Exec) (c : Condition) → e.body ≡ Cond c → IsRanged e → is_in_range c ≡ true
cond_ranged e c body range =
    let here : are_ranged (place_of range.0 e ∷ []) ≡ true = rw (placed_test range.0 e c body) at range.1 in
    let shape = shape_test e c body in
    rw shape at (and_parts _ true here).0

pub steps_ranged : (e : Exec) (es : List Exec) → e.body ≡ Sub es → IsRanged e → AreRanged es
steps_ranged e es body range =
    let all : are_ranged (place_of range.0 e ∷ places_at (range.0 + 1) es) ≡ true = rw (placed_flow range.0 e es body) at range.1 in
    (range.0 + 1, (and_parts _ (are_ranged (places_at (range.0 + 1) es)) all).1)

-- what holds of the places of all holds of those of each
each_place : (p : Place → Bool) (d : ℕ) (es : List Exec) (i : ℕ) (e : Exec) → i < length es → get_or es i e ≡ e → list_all p (places_at d es) ≡ true
    → list_all p (placed_at d e) ≡ true
each_place p d [] i e lt at h = absurd (omega arith)
each_place p d (x ∷ es) zero e lt at h = rw at at (and_parts (list_all p (placed_at d x)) (list_all p (places_at d es)) (rw list_all-append at h)).0
each_place p d (x ∷ es) (suc i) e lt at h =
    each_place p d es i e (omega arith) at (and_parts (list_all p (placed_at d x)) (list_all p (places_at d es)) (rw list_all-append at h)).1

pub exec_ranged : (es : List Exec) (i : ℕ) (e : Exec) → i < length es → get_or es i e ≡ e → AreRanged es → IsRanged e
exec_ranged es i e lt at range = (range.0, each_place _ range.0 es i e lt at range.1)

-- ---- how deep their data nest

is_shallow : (d : ℕ) (e : Exec) → are_shallow (placed_at d e) ≡ true → d ≤ 8
is_shallow d e h =
    let first = placed_first d e in
    let here : are_shallow (place_of d e ∷ first.0) ≡ true = rw first.1 at h in
    leb-true d 8 (and_parts (nat_le d 8) (are_shallow first.0) here).0

pub alone_plain : (e : Exec) (ms : Members) → ArePlain 0 ms → IsExecPlain e ms
alone_plain e ms h = λ d _. record { deep = (let low = h.deep in omega arith); dates = h.dates }

pub flow_plain : (e : Exec) (es : List Exec) (steps : Data) (ms : Members) → e.body ≡ Sub es → IsFlowPlain es steps
    → ((most : ℕ) → IsPlain most steps → ArePlain most ms) → IsExecPlain e ms
flow_plain e es steps ms body below made_of = λ d h.
    let low = is_shallow d e h in
    let all : are_shallow (place_of d e ∷ places_at (d + 1) es) ≡ true = rw (placed_flow d e es body) at h in
    let inner = below (d + 1) (omega arith) (and_parts _ (are_shallow (places_at (d + 1) es)) all).1 in
    let same : 19 - 2 * (d + 1) ≡ 17 - 2 * d = omega arith in
    rw same at (made_of (19 - 2 * (d + 1)) inner)

-- the items of a flow, as far as they are printed
abbrev pub AreStepsPlain : List Exec → Items → Type 0
AreStepsPlain es ds = (d : ℕ) → d ≤ 9 → are_shallow (places_at d es) ≡ true → AreItemsPlain (18 - 2 * d) ds

pub step_plain : (es : List Exec) (i : ℕ) (e : Exec) (vs : List Value) (v : Value) (ms : Members) → i < length es → get_or es i e ≡ e
    → view v ≡ table ms → IsExecPlain e ms → AreStepsPlain es (items_view vs) → AreStepsPlain es (items_view (vs ++ v ∷ []))
step_plain es i e vs v ms lt at seen here before = λ d few h.
    let low : are_shallow (placed_at d e) ≡ true = each_place _ d es i e lt at h in
    let eight = is_shallow d e low in
    let inner = here d low in
    plain_last vs v (18 - 2 * d) (before d few h) (rw seen (record { deep = (let deep = inner.deep in omega arith); dates = inner.dates }))

pub steps_plain : (es : List Exec) (ds : Items) → AreStepsPlain es ds → IsFlowPlain es (array ds)
steps_plain es ds h = λ d few low.
    let inner = h d few low in
    record { deep = (let deep = inner.deep in omega arith); dates = inner.dates }

-- ---- before the first

pub none_plain : (es : List Exec) → AreStepsPlain es no_items
none_plain es = λ d few low. no_plain (18 - 2 * d)
