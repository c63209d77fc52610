-- Executions that are read.
use Rattle.std.proofs.Common.{◌≡◌, ℕ, zero, suc, ◌+◌, ◌<◌, ◌≤◌, max, cond, nat_le, unwrap_or, Bool, true, false, ◌&&◌, List, [], ◌∷◌, ◌++◌, length, get_or, drop, Option, Some, None, Result, Ok, Err, Ordering, Less, Equal, Greater, nat_cmp, codes, refl, sym, ap, subst, ◌∙◌, append_assoc, append-nil, arith}
use Rattle.std.specs.Prelude.{IfOk}
use Rattle.std.specs.Cmp.Lexicographic.{slice_cmp}
use Rattle.std.specs.Ordering.{match_ordering}
use Rattle.std.specs.List.{list_all, flat_map}
use Rattle.std.proofs.lemmas.Bool.{and_parts}
use Rattle.std.proofs.lemmas.List.Folds.{list_all-append}
use Rattle.toml.specs.Data.{Data, string, integer, float, boolean, datetime, array, table, Items, no_items, item, Members, no_members, member, get_member, depth, items_depth, members_depth}
use Rattle.toml.specs.View.{view, items_view}
use Rattle.toml.specs.declared.value.Value.{Value}
use Rattle.toml.proofs.Views.{items_view-drop}
use Rattle.login_base.specs.Names.{is_name}
use Rattle.flow_tree.specs.declared.exec.Body.{Body}
use Rattle.flow_tree.specs.declared.exec.Body.TheVariants.{Auth, Cond, Sub}
use Rattle.flow_tree.specs.declared.exec.Cond.{Cond as Condition}
use Rattle.flow_tree.specs.declared.exec.Cond.TheVariants as conds
use Rattle.flow_tree.specs.declared.exec.Kind.{Kind}
use Rattle.flow_tree.specs.declared.exec.Requirement.{Requirement}
use Rattle.flow_tree.specs.declared.exec.Exec.{Exec}
use Rattle.flow_tree.specs.Names.{asks_by_name, has_own_names, has_names}
use Rattle.flow_tree.specs.Places.{Place, place_of, placed_at, places_at}
use Rattle.flow_tree.specs.Ranges.{is_in_range, is_level_in_range}
use Rattle.flow_tree.proofs.Placing.{placed_leaf, placed_test, placed_flow, shape_leaf, shape_test, shape_flow}
use Rattle.realm_data.specs.Realm.{has_levels_in_range}
use Rattle.realm_fields.specs.declared.fault.RealmFault.{RealmFault}
use Rattle.realm_fields.specs.declared.fault.RealmFault.TheVariants.{Missing}
use Rattle.realm_fields.specs.declared.stop.Stop.{Stop}
use Rattle.realm_fields.specs.declared.stop.Stop.TheVariants as stops
use Rattle.realm_fields.specs.declared.words.ExecKind.{ExecKind}
use Rattle.realm_fields.specs.declared.words.ExecKind.TheVariants as kinds
use Rattle.realm_fields.specs.Paths.{key_path, item_path}
use Rattle.realm_fields.specs.Reading.{Read, ◌>>=◌, Fails, Gives, table_in, array_in, flag_in, word_in, number_in, required, optional, or_missing}
use Rattle.realm_fields.specs.Words.{name_of, requirement_of, exec_kind_of}
use Rattle.realm_file.specs.Execs.{Steps, exec_in, execs_in, execs_from, more_execs, steps_at, check_exec_keys, exec_fields, body_fields, role_in, level_in}
use Rattle.realm_fields.proofs.ItemLemmas.{behind}
use Rattle.realm_fields.proofs.RangeLemmas.{bind_ok, ok_is, number_range, word_known, required_read}

-- ---- the equations of the definitions

-- an execution is a table with its fields
pub exec_table : (path : List ℕ) (d : Data) → exec_in path d ≡ (table_in path d >>= λ ms. exec_fields path ms (steps_at ms))
unfolding exec_in
exec_table path (string s) = refl
exec_table path (integer z) = refl
exec_table path (float x) = refl
exec_table path (boolean b) = refl
exec_table path (datetime dt) = refl
exec_table path (array ds) = refl
exec_table path (table ms) = refl

-- some executions are an array
pub execs_array : (path : List ℕ) (d : Data) → execs_in path d ≡ (array_in path d >>= execs_from path 0)
unfolding execs_in
execs_array path (string s) = refl
execs_array path (integer z) = refl
execs_array path (float x) = refl
execs_array path (boolean b) = refl
execs_array path (datetime dt) = refl
execs_array path (array ds) = refl
execs_array path (table ms) = refl

found_at : (o : Ordering) (d : Data) (rest : Read (List Exec)) (found : Option Data) (path : List ℕ) → rest ≡ or_missing execs_in path found
    → match_ordering o rest (execs_in path d) rest ≡ or_missing execs_in path (match_ordering o found (Some d) found)
found_at Less d rest found path e = e
found_at Equal d rest found path e = refl
found_at Greater d rest found path e = e

-- the steps are what stands at their key
pub steps_member : (ms : Members) (path : List ℕ) → steps_at ms path ≡ or_missing execs_in path (get_member (codes "steps") ms)
unfolding steps_at
steps_member no_members path = refl
steps_member (member key d ms) path = found_at (slice_cmp nat_cmp (codes "steps") key) d (steps_at ms path) _ path (steps_member ms path)

-- ---- one execution after the other, as a loop reads them

regroup : (front : List Exec) (x : Exec) (read : Read (List Exec)) → behind front (read >>= λ xs. Ok (x ∷ xs)) ≡ behind (front ++ x ∷ []) read
regroup front x (Ok xs) = ap (λ ys. Ok ys) (sym (append_assoc front (x ∷ []) xs))
regroup front x (Err fault) = refl

pub goes_on : (path : List ℕ) (front : List Exec) (vs : List Value) (i : ℕ) (v : Value) (x : Exec) (total : Read (List Exec))
    → i < length vs → get_or vs i v ≡ v → exec_in (item_path path i) (view v) ≡ Ok x
    → behind front (execs_from path i (items_view (drop i vs))) ≡ total
    → behind (front ++ x ∷ []) (execs_from path (i + 1) (items_view (drop (i + 1) vs))) ≡ total
unfolding execs_from
goes_on path front vs i v x total lt at h so_far =
    let one : behind front (execs_from path i (items_view (drop i vs))) ≡ behind (front ++ x ∷ []) (execs_from path (i + 1) (items_view (drop (i + 1) vs))) =
    rw (items_view-drop vs i v lt, at, h) (regroup front x (execs_from path (i + 1) (items_view (drop (i + 1) vs)))) in
    sym one ∙ so_far

pub stops_at : (e : Stop) (path : List ℕ) (front : List Exec) (vs : List Value) (i : ℕ) (v : Value) (total : Read (List Exec))
    → i < length vs → get_or vs i v ≡ v → Fails e (exec_in (item_path path i) (view v))
    → behind front (execs_from path i (items_view (drop i vs))) ≡ total → Fails e total
unfolding execs_from
stops_at stops.Memory path front vs i v total lt at h so_far = tt
stops_at (stops.Fault fault) path front vs i v total lt at h so_far =
    let one : behind front (execs_from path i (items_view (drop i vs))) ≡ Err fault = rw (items_view-drop vs i v lt, at, h) refl in
    sym so_far ∙ one

pub ends : (path : List ℕ) (front : List Exec) (vs : List Value) (i : ℕ) (total : Read (List Exec))
    → drop i vs ≡ [] → behind front (execs_from path i (items_view (drop i vs))) ≡ total → total ≡ Ok front
unfolding execs_from
ends path front vs i total none so_far =
    let one : behind front (execs_from path i (items_view (drop i vs))) ≡ Ok front = rw none (ap (λ ys. Ok ys) (append-nil front)) in
    sym so_far ∙ one

-- ---- how deep the data nest

pub array_depth : (path : List ℕ) (d : Data) (ds : Items) → array_in path d ≡ Ok ds → depth d ≡ items_depth ds + 1
array_depth path (array es) ds e = let same : es ≡ ds = cc in rw same (omega arith)
array_depth path (string s) ds e = absurd cc
array_depth path (integer z) ds e = absurd cc
array_depth path (float x) ds e = absurd cc
array_depth path (boolean b) ds e = absurd cc
array_depth path (datetime dt) ds e = absurd cc
array_depth path (table ms) ds e = absurd cc

pub table_depth : (path : List ℕ) (d : Data) (ms : Members) → table_in path d ≡ Ok ms → depth d ≡ members_depth ms + 1
table_depth path (table ns) ms e = let same : ns ≡ ms = cc in rw same (omega arith)
table_depth path (string s) ms e = absurd cc
table_depth path (integer z) ms e = absurd cc
table_depth path (float x) ms e = absurd cc
table_depth path (boolean b) ms e = absurd cc
table_depth path (datetime dt) ms e = absurd cc
table_depth path (array ds) ms e = absurd cc

member_depth_at : (o : Ordering) (k : List ℕ) (e d : Data) (ms : Members) → (get_member k ms ≡ Some d → depth d ≤ members_depth ms)
    → match_ordering o (get_member k ms) (Some e) (get_member k ms) ≡ Some d → depth d ≤ max (depth e) (members_depth ms)
member_depth_at Less k e d ms ih h = let le = ih h in omega arith
member_depth_at Equal k e d ms ih h = let same : e ≡ d = cc in rw (← same) (omega arith)
member_depth_at Greater k e d ms ih h = let le = ih h in omega arith

pub member_depth : (k : List ℕ) (d : Data) (ms : Members) → get_member k ms ≡ Some d → depth d ≤ members_depth ms
member_depth k d no_members h = absurd cc
member_depth k d (member l e ms) h = member_depth_at (slice_cmp nat_cmp k l) k e d ms (member_depth k d ms) h

pub item_depth : (vs : List Value) (i : ℕ) (v : Value) → i < length vs → get_or vs i v ≡ v → depth (view v) ≤ items_depth (items_view vs)
item_depth [] i v lt at = absurd (omega arith)
item_depth (x ∷ vs) zero v lt at = rw at (omega arith)
item_depth (x ∷ vs) (suc i) v lt at = let le = item_depth vs i v (omega arith) at in omega arith

-- ---- what is read is in its ranges

-- its id and its role are names, and its level and age are in their ranges
abbrev is_sound_place : Place → Bool
is_sound_place p = has_own_names p && is_level_in_range p.shape

abbrev IsSound : Exec → Type 0
IsSound e = (d : ℕ) → list_all is_sound_place (placed_at d e) ≡ true

abbrev AreSound : List Exec → Type 0
AreSound es = (d : ℕ) → list_all is_sound_place (places_at d es) ≡ true

name_known : (word x : List ℕ) → name_of word ≡ Some x → is_name x ≡ true
name_known word x h = known (is_name word) refl h
  where
    known : (b : Bool) → is_name word ≡ b → cond b (Some word) None ≡ Some x → is_name x ≡ true
    known true e h = let same : word ≡ x = cc in rw (← same) e
    known false e h = absurd cc

pub name_read : (path key : List ℕ) (ms : Members) (x : List ℕ) → required (word_in name_of) path key ms ≡ Ok x → is_name x ≡ true
name_read path key ms x h =
    let d = required_read (word_in name_of) path key ms x h in
    let w = word_known name_of (key_path path key) d.0 x d.1 in
    name_known w.0 x w.1

module _ (id : List ℕ) (r : Requirement) (named : is_name id ≡ true) where
  abbrev made : Body → Exec
  made body = record { id = id; requirement = r; body = body }

  leaf_sound : (kind : Kind) → IsSound (made (Auth kind))
  leaf_sound kind d = rw (placed_leaf d (made (Auth kind)) kind refl, shape_leaf (made (Auth kind)) kind refl, named) refl

  test_sound : (c : Condition) → asks_by_name c ≡ true → is_in_range c ≡ true → IsSound (made (Cond c))
  test_sound c by_name range d = rw (placed_test d (made (Cond c)) c refl, shape_test (made (Cond c)) c refl, named, by_name, range) refl

  flow_sound : (es : List Exec) → AreSound es → IsSound (made (Sub es))
  flow_sound es all d = rw (placed_flow d (made (Sub es)) es refl, shape_flow (made (Sub es)) es refl, named, all (d + 1)) refl

  role_sound : (path : List ℕ) (ms : Members) (c : Condition) → role_in path ms ≡ Ok c → IsSound (made (Cond c))
  unfolding role_in
  role_sound path ms c h =
      let role = bind_ok (required (word_in name_of) path (codes "role") ms) (λ role. optional flag_in path (codes "negate") ms >>= λ negate. Ok (conds.Role role (unwrap_or negate false))) c h in
      let negate = bind_ok (optional flag_in path (codes "negate") ms) (λ negate. Ok (conds.Role role.0 (unwrap_or negate false))) c role.2 in
      let same : conds.Role role.0 (unwrap_or negate.0 false) ≡ c = ok_is _ _ negate.2 in
      subst (λ x. IsSound (made (Cond x))) same (test_sound (conds.Role role.0 (unwrap_or negate.0 false)) (name_read path (codes "role") ms role.0 role.1) refl)

  level_sound : (path : List ℕ) (ms : Members) (c : Condition) → level_in path ms ≡ Ok c → IsSound (made (Cond c))
  unfolding level_in
  level_sound path ms c h =
      let level = bind_ok (required (number_in 1 1000) path (codes "level") ms) (λ level. required (number_in 0 31536000) path (codes "age") ms >>= λ age. Ok (conds.Level level age)) c h in
      let age = bind_ok (required (number_in 0 31536000) path (codes "age") ms) (λ age. Ok (conds.Level level.0 age)) c level.2 in
      let same : conds.Level level.0 age.0 ≡ c = ok_is _ _ age.2 in
      let l = required_read (number_in 1 1000) path (codes "level") ms level.0 level.1 in
      let a = required_read (number_in 0 31536000) path (codes "age") ms age.0 age.1 in
      let level_ok : (nat_le 1 level.0 && nat_le level.0 1000) ≡ true = number_range 1 1000 (key_path path (codes "level")) l.0 level.0 l.1 in
      let age_ok : (nat_le 0 age.0 && nat_le age.0 31536000) ≡ true = number_range 0 31536000 (key_path path (codes "age")) a.0 age.0 a.1 in
      subst (λ x. IsSound (made (Cond x))) same (test_sound (conds.Level level.0 age.0) refl (rw (level_ok, (and_parts (nat_le 0 age.0) (nat_le age.0 31536000) age_ok).1) refl))

  body_sound : (path : List ℕ) (ms : Members) (steps : Steps) (kind : ExecKind) (body : Body) → ((p : List ℕ) (es : List Exec) → steps p ≡ Ok es → AreSound es)
      → body_fields path ms steps kind ≡ Ok body → IsSound (made body)
  body_sound path ms steps (kinds.Auth kind) body below h = subst (λ x. IsSound (made x)) (ok_is (Auth kind) body h) (leaf_sound kind)
  body_sound path ms steps kinds.Configured body below h = subst (λ x. IsSound (made x)) (ok_is (Cond conds.Configured) body h) (test_sound conds.Configured refl refl)
  body_sound path ms steps kinds.Role body below h =
      let c = bind_ok (role_in path ms) (λ cond. Ok (Cond cond)) body h in
      subst (λ x. IsSound (made x)) (ok_is (Cond c.0) body c.2) (role_sound path ms c.0 c.1)
  body_sound path ms steps kinds.Level body below h =
      let c = bind_ok (level_in path ms) (λ cond. Ok (Cond cond)) body h in
      subst (λ x. IsSound (made x)) (ok_is (Cond c.0) body c.2) (level_sound path ms c.0 c.1)
  body_sound path ms steps kinds.Flow body below h =
      let es = bind_ok (steps (key_path path (codes "steps"))) (λ execs. Ok (Sub execs)) body h in
      subst (λ x. IsSound (made x)) (ok_is (Sub es.0) body es.2) (flow_sound es.0 (below (key_path path (codes "steps")) es.0 es.1))

fields_sound : (path : List ℕ) (ms : Members) (steps : Steps) (e : Exec) → ((p : List ℕ) (es : List Exec) → steps p ≡ Ok es → AreSound es)
    → exec_fields path ms steps ≡ Ok e → IsSound e
unfolding exec_fields
fields_sound path ms steps e below h =
    let keys = bind_ok (check_exec_keys path ms) _ e h in
    let id = bind_ok (required (word_in name_of) path (codes "id") ms) _ e keys.2 in
    let requirement = bind_ok (required (word_in requirement_of) path (codes "require") ms) _ e id.2 in
    let kind = bind_ok (required (word_in exec_kind_of) path (codes "kind") ms) _ e requirement.2 in
    let body = bind_ok (body_fields path ms steps kind.0) _ e kind.2 in
    subst IsSound (ok_is (made id.0 requirement.0 (name_read path (codes "id") ms id.0 id.1) body.0) e body.2)
    (body_sound id.0 requirement.0 (name_read path (codes "id") ms id.0 id.1) path ms steps kind.0 body.0 below body.1)

steps_found : (o : Ordering) (below more : Read (List Exec)) (es : List Exec) → (below ≡ Ok es → AreSound es) → (more ≡ Ok es → AreSound es)
    → match_ordering o more below more ≡ Ok es → AreSound es
steps_found Less below more es f g h = g h
steps_found Equal below more es f g h = f h
steps_found Greater below more es f g h = g h

mutual
  unfolding exec_in execs_in execs_from steps_at

  exec_sound : (path : List ℕ) (d : Data) (e : Exec) → exec_in path d ≡ Ok e → IsSound e
  exec_sound path (table ms) e h = fields_sound path ms (steps_at ms) e (steps_sound ms) h
  exec_sound path (string s) e h = absurd cc
  exec_sound path (integer z) e h = absurd cc
  exec_sound path (float x) e h = absurd cc
  exec_sound path (boolean b) e h = absurd cc
  exec_sound path (datetime dt) e h = absurd cc
  exec_sound path (array ds) e h = absurd cc

  pub execs_sound : (path : List ℕ) (d : Data) (es : List Exec) → execs_in path d ≡ Ok es → AreSound es
  execs_sound path (array ds) es h = from_sound path 0 ds es h
  execs_sound path (string s) es h = absurd cc
  execs_sound path (integer z) es h = absurd cc
  execs_sound path (float x) es h = absurd cc
  execs_sound path (boolean b) es h = absurd cc
  execs_sound path (datetime dt) es h = absurd cc
  execs_sound path (table ms) es h = absurd cc

  from_sound : (path : List ℕ) (i : ℕ) (ds : Items) (es : List Exec) → execs_from path i ds ≡ Ok es → AreSound es
  from_sound path i no_items es h = subst AreSound (ok_is [] es h) (λ d. refl)
  from_sound path i (item d ds) es h =
      let e = bind_ok (exec_in (item_path path i) d) (λ exec. more_execs exec (execs_from path (i + 1) ds)) es h in
      let rest = bind_ok (execs_from path (i + 1) ds) (λ execs. Ok (e.0 ∷ execs)) es e.2 in
      let first = exec_sound (item_path path i) d e.0 e.1 in
      let others = from_sound path (i + 1) ds rest.0 rest.1 in
      subst AreSound (ok_is (e.0 ∷ rest.0) es rest.2) (λ depth. rw (list_all-append, first depth, others depth) refl)

  steps_sound : (ms : Members) (path : List ℕ) (es : List Exec) → steps_at ms path ≡ Ok es → AreSound es
  steps_sound no_members path es h = absurd cc
  steps_sound (member key d ms) path es h =
      steps_found (slice_cmp nat_cmp (codes "steps") key) (execs_in path d) (steps_at ms path) es (execs_sound path d es) (steps_sound ms path es) h

-- both parts hold of each where both hold of each
both_hold : {A : Type 0} (p q : A → Bool) (xs : List A) → list_all (λ x. p x && q x) xs ≡ true → (list_all p xs ≡ true) × (list_all q xs ≡ true)
both_hold p q [] h = (refl, refl)
both_hold p q (x ∷ xs) h =
    let parts = and_parts (p x && q x) (list_all (λ x. p x && q x) xs) h in
    let here = and_parts (p x) (q x) parts.0 in
    let more = both_hold p q xs parts.1 in
    (rw (here.0, more.0) refl, rw (here.1, more.1) refl)

-- the flow of a realm that is read
pub flow_read : (path key : List ℕ) (ms : Members) (es : List Exec) → required execs_in path key ms ≡ Ok es
    → (has_names es ≡ true) × (has_levels_in_range es ≡ true)
flow_read path key ms es h =
    let d = required_read execs_in path key ms es h in
    both_hold has_own_names (λ p. is_level_in_range p.shape) (places_at 1 es) (execs_sound (key_path path key) d.0 es d.1 1)

-- the flow of a realm, as it is answered
pub flow_in_range : (path key : List ℕ) (ms : Members) (r : Result (List Exec) Stop) → Gives r (required execs_in path key ms)
    → IfOk r (λ es. has_names es ≡ true) × IfOk r (λ es. has_levels_in_range es ≡ true)
flow_in_range path key ms (Ok es) h = flow_read path key ms es h
flow_in_range path key ms (Err stop) h = (tt, tt)
