-- An authenticator that is passed is true, wherever it stands in its tree.
use Rattle.std.proofs.Common.{◌≡◌, ℕ, ◌+◌, Bool, true, false, ◌&&◌, ◌||◌, List, [], ◌∷◌, Option, Some, None, refl, sym, ap, ◌∙◌, bytes_eq}
use Rattle.std.specs.Prelude.{if◌then◌else◌}
use Rattle.std.specs.List.{list_any, flat_map}
use Rattle.std.specs.Option.{option_or}
use Rattle.std.proofs.lemmas.Bool.{and_parts, or_right}
use Rattle.std.proofs.lemmas.Grind.{flat_map-append}
use Rattle.std.proofs.lemmas.List.Folds.{list_any-append}
use Rattle.std.proofs.lemmas.Slice.Eq.{bytes_eq-Decides}
use Rattle.login_base.specs.declared.id.TabKey.{TabKey}
use Rattle.login_base.specs.declared.id.UserId.{UserId}
use Rattle.flow_tree.specs.declared.exec.Body.TheVariants as body
use Rattle.flow_tree.specs.declared.exec.Body.TheVariants.{Auth, Sub}
use Rattle.flow_tree.specs.declared.exec.Cond.{Cond}
use Rattle.flow_tree.specs.declared.exec.Exec.{Exec}
use Rattle.flow_tree.specs.declared.exec.Kind.{Kind}
use Rattle.flow_tree.specs.declared.exec.Kind.TheVariants as kinds
use Rattle.flow_tree.specs.declared.leaves.Leaf.{Leaf}
use Rattle.flow_tree.specs.Flow.{has}
use Rattle.flow_tree.specs.Leaves.{leaf_of, leaves_among}
use Rattle.flow_tree.specs.Places.{Shape, Leaf as Authenticator, Test, Flow, Place, placed_at, places_at, places, same_kind, is_of_kind, leaf_kind, kind_among}
use Rattle.flow_tree.proofs.Placing.{shape_leaf, shape_test, shape_flow, placed_leaf, placed_test, placed_flow}
use Rattle.conditions.specs.Setup.{configured}
use Rattle.flow_truths.specs.declared.view.LoginView.{LoginView}
use Rattle.flow_truths.specs.Truth.{cookie_holds, is_leaf_true}
use Rattle.flow_truths.specs.Truths.{truths_in, truths}
use Rattle.flow_truths.proofs.Telling.{told_leaf, told_flow}
use Rattle.facts.specs.declared.fact.Fact.{Fact}
use Rattle.facts.specs.Evidence.{has_evidence}
use Rattle.login_progress.specs.Evidence.{is_posted, is_passed, passed_of}
use Rattle.hall_laws.proofs.TreeInduction.{Each, each_of, exec_induction}

-- it is the authenticator of this id and kind
abbrev pub is_leaf_at : List ℕ → Kind → Place → Bool
is_leaf_at id kind p = bytes_eq p.id id && is_of_kind kind p.shape

-- ---- kinds and tests

pub kind_same : (kind : Kind) → same_kind kind kind ≡ true
kind_same kinds.Allow = refl
kind_same kinds.Deny = refl
kind_same kinds.Cookie = refl
kind_same kinds.Username = refl
kind_same kinds.Password = refl
kind_same kinds.Form = refl
kind_same kinds.Otp = refl
kind_same kinds.Recovery = refl

pub kind_is : (a b : Kind) → same_kind a b ≡ true → a ≡ b
kind_is kinds.Allow kinds.Allow h = refl
kind_is kinds.Deny kinds.Deny h = refl
kind_is kinds.Cookie kinds.Cookie h = refl
kind_is kinds.Username kinds.Username h = refl
kind_is kinds.Password kinds.Password h = refl
kind_is kinds.Form kinds.Form h = refl
kind_is kinds.Otp kinds.Otp h = refl
kind_is kinds.Recovery kinds.Recovery h = refl
kind_is a b h = absurd cc

pub id_is : (a b : List ℕ) → bytes_eq a b ≡ true → a ≡ b
id_is a b h = (bytes_eq-Decides a b).0 h

pub id_same : (a : List ℕ) → bytes_eq a a ≡ true
id_same a = (bytes_eq-Decides a a).1 refl

-- what the first of two comes from, so does what the second
either : (a b c d : Bool) → (a ≡ true → c ≡ true) → (b ≡ true → d ≡ true) → (a || b) ≡ true → (c || d) ≡ true
either true b c d first second h = rw (first refl) refl
either false b c d first second h = or_right c d (second h)

-- ---- among the places of a tree

kind_found : (id : List ℕ) (kind : Kind) (same : Bool) (shape : Shape) (later : Option Kind) (found : Bool) → (later ≡ Some kind → found ≡ true)
    → option_or (if same then leaf_kind shape else None) later ≡ Some kind → ((same && is_of_kind kind shape) || found) ≡ true
kind_found id kind true (Authenticator own) later found more h = let e : own ≡ kind = cc in rw (e, kind_same kind) refl
kind_found id kind true (Test c) later found more h = more h
kind_found id kind true Flow later found more h = more h
kind_found id kind false shape later found more h = more h

pub leaf_found : (id : List ℕ) (kind : Kind) (ps : List Place) → kind_among id ps ≡ Some kind → list_any (is_leaf_at id kind) ps ≡ true
unfolding kind_among
leaf_found id kind [] h = absurd cc
leaf_found id kind (p ∷ ps) h = kind_found id kind (bytes_eq p.id id) p.shape (kind_among id ps) (list_any (is_leaf_at id kind) ps) (leaf_found id kind ps) h

-- ---- in a tree

module _ (v : LoginView) (cookie : Bool) (id : List ℕ) (kind : Kind) (is_true : is_leaf_true v cookie id kind ≡ true) where
  -- where the authenticator stands in the execution, its id is true there
  abbrev IsTold : Exec → Type 0
  IsTold e = (d : ℕ) (beside : Bool) → list_any (is_leaf_at id kind) (placed_at d e) ≡ true → has (truths_in v cookie beside e) id ≡ true

  alone : (a b : Bool) → ((a && b) || false) ≡ true → (a ≡ true) × (b ≡ true)
  alone true true h = (refl, refl)
  alone true false h = absurd cc
  alone false b h = absurd cc

  none : (a b : Bool) → b ≡ false → ((a && b) || false) ≡ true → ⊥
  none true b is h = absurd cc
  none false b is h = absurd cc

  leaf_told : (e : Exec) (own : Kind) → e.body ≡ Auth own → IsTold e
  leaf_told e own is d beside h =
      let at = ap (λ ps. list_any (is_leaf_at id kind) ps) (sym (placed_leaf d e own is)) ∙ h in
      let both = alone (bytes_eq e.id id) (same_kind own kind) (ap (λ s. (bytes_eq e.id id && is_of_kind kind s) || false) (sym (shape_leaf e own is)) ∙ at) in
      let here : is_leaf_true v cookie e.id own ≡ true =
      ap (λ i. is_leaf_true v cookie i own) (id_is e.id id both.0) ∙ ap (is_leaf_true v cookie id) (kind_is own kind both.1) ∙ is_true in
      rw (told_leaf v cookie beside e own is, here, both.0) refl

  test_told : (e : Exec) (c : Cond) → e.body ≡ body.Cond c → IsTold e
  test_told e c is d beside h =
      let at = ap (λ ps. list_any (is_leaf_at id kind) ps) (sym (placed_test d e c is)) ∙ h in
      absurd (none (bytes_eq e.id id) _ (ap (is_of_kind kind) (shape_test e c is)) at)

  among : (es : List Exec) → Each IsTold es → (d : ℕ) (beside : Bool) → list_any (is_leaf_at id kind) (places_at d es) ≡ true → has (flat_map (truths_in v cookie beside) es) id ≡ true
  among [] all d beside h = absurd cc
  among (e ∷ es) all d beside h =
      list_any-append (λ held. bytes_eq held id) (truths_in v cookie beside e) (flat_map (truths_in v cookie beside) es)
      ∙ either (list_any (is_leaf_at id kind) (placed_at d e)) (list_any (is_leaf_at id kind) (places_at d es)) _ _
      (all.0 d beside) (among es all.1 d beside) (sym (list_any-append (is_leaf_at id kind) (placed_at d e) (places_at d es)) ∙ h)

  behind : (a b found : Bool) → b ≡ false → ((a && b) || found) ≡ true → found ≡ true
  behind true b found is h = sym (ap (λ x. x || found) is) ∙ h
  behind false b found is h = h

  flow_told : (e : Exec) (es : List Exec) → e.body ≡ Sub es → Each IsTold es → IsTold e
  flow_told e es is all d beside h =
      let at = ap (λ ps. list_any (is_leaf_at id kind) ps) (sym (placed_flow d e es is)) ∙ h in
      let below = behind (bytes_eq e.id id) _ (list_any (is_leaf_at id kind) (places_at (d + 1) es)) (ap (is_of_kind kind) (shape_flow e es is)) at in
      ap (λ ids. has ids id) (told_flow v cookie beside e es is) ∙ among es all (d + 1) (configured v.account es) below

  told_in : (e : Exec) → IsTold e
  told_in = exec_induction IsTold leaf_told test_told flow_told

  pub told_among : (tree : List Exec) (beside : Bool) → list_any (is_leaf_at id kind) (places tree) ≡ true → has (flat_map (truths_in v cookie beside) tree) id ≡ true
  told_among tree beside h = among tree (each_of IsTold told_in tree) 1 beside h

-- the authenticator of an id, where it is true, makes the id true
pub leaf_true : (v : LoginView) (tree : List Exec) (id : List ℕ) (kind : Kind) → kind_among id (places tree) ≡ Some kind → is_leaf_true v (cookie_holds v tree) id kind ≡ true
    → has (truths v tree) id ≡ true
leaf_true v tree id kind found is_true = told_among v (cookie_holds v tree) id kind is_true tree (configured v.account tree) (leaf_found id kind (places tree) found)

-- ---- with evidence that counts

module _ (facts : List Fact) (tab : TabKey) (user : UserId) (id : List ℕ) (kind : Kind) (posted : is_posted kind ≡ true) (evidence : has_evidence tab user id facts ≡ true) where
  abbrev if_passed : Leaf → List (List ℕ)
  if_passed leaf = if is_passed facts tab (Some user) leaf then leaf.id ∷ [] else []

  leaf_counts : (own : List ℕ) (shape : Shape) → (bytes_eq own id && is_of_kind kind shape) ≡ true → (place : Place) → place.id ≡ own → place.shape ≡ shape
      → has (flat_map if_passed (leaf_of place)) id ≡ true
  leaf_counts own (Authenticator other) h place named shaped =
      let both = and_parts (bytes_eq own id) (same_kind other kind) h in
      let is : own ≡ id = id_is own id both.0 in
      let of : other ≡ kind = kind_is other kind both.1 in
      rw (shaped, named, is, of, posted, evidence, id_same id) refl
  leaf_counts own (Test c) h place named shaped = let both = and_parts (bytes_eq own id) false h in absurd cc
  leaf_counts own Flow h place named shaped = let both = and_parts (bytes_eq own id) false h in absurd cc

  counted_among : (ps : List Place) → list_any (is_leaf_at id kind) ps ≡ true → has (flat_map if_passed (leaves_among ps)) id ≡ true
  counted_among [] h = absurd cc
  counted_among (p ∷ ps) h =
      ap (λ ids. has ids id) (flat_map-append if_passed (leaf_of p) (leaves_among ps))
      ∙ list_any-append (λ held. bytes_eq held id) (flat_map if_passed (leaf_of p)) (flat_map if_passed (leaves_among ps))
      ∙ either (is_leaf_at id kind p) (list_any (is_leaf_at id kind) ps) _ _ (λ here. leaf_counts p.id p.shape here p refl refl) (counted_among ps) h

  -- what is passed counts
  pub passed_counts : (tree : List Exec) → kind_among id (places tree) ≡ Some kind → has (passed_of facts tab (Some user) (leaves_among (places tree))) id ≡ true
  unfolding passed_of
  passed_counts tree found = counted_among (places tree) (leaf_found id kind (places tree) found)

-- an authenticator of a post is true where it counts
pub posted_true : (v : LoginView) (cookie : Bool) (id : List ℕ) (kind : Kind) → is_posted kind ≡ true → has v.counted id ≡ true → is_leaf_true v cookie id kind ≡ true
posted_true v cookie id kinds.Allow posted h = absurd cc
posted_true v cookie id kinds.Deny posted h = absurd cc
posted_true v cookie id kinds.Cookie posted h = absurd cc
posted_true v cookie id kinds.Username posted h = h
posted_true v cookie id kinds.Password posted h = h
posted_true v cookie id kinds.Form posted h = h
posted_true v cookie id kinds.Otp posted h = h
posted_true v cookie id kinds.Recovery posted h = h
