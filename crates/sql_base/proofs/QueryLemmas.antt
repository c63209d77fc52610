-- What a query over one tree answers.
use Rattle.std.proofs.Common.{◌≡◌, inl, inr, Bool, true, false, cond, None, pos, negsuc, ℕ, List, [], ◌∷◌, ◌++◌, map, flat_map, refl, sym, ap, subst, ◌∙◌, IsPermutation}
use Rattle.std.specs.List.{list_all}
use Rattle.std.proofs.lemmas.List.Sorted.{IsPermutation-sym, IsPermutation-map}
use Rattle.sqlite_trees.proofs.ListLemmas.{all-permutation}
use Rattle.sqlite.specs.declared.types.Value.TheVariants.{Int}
use Rattle.sqlite.specs.Collation.TheVariants.{Binary}
use Rattle.sqlite.specs.Order.{Row}
use Rattle.sqlite.specs.Tree.{Trees}
use Rattle.sqlite.specs.Term.{Term, lit, holds, eval_all}
use Rattle.sqlite.specs.Query.{Query, Output, output, IsAnswer}
use Rattle.sqlite_sql.specs.Query.{matches, inner, end}
use Rattle.sqlite_rules.specs.Lists.{Has}
use Rattle.sqlite_rules.proofs.ListLemmas.{all_has, all_from, has_right}
use Rattle.sqlite_rules.proofs.ProbeLemmas.{has_mapped, mapped_has}

-- the rows of a tree that pass a test
abbrev pub one_query : ℕ → List Term → List Term → Query
one_query tree test shown = record {
  from = inner tree end;
  filter = test;
  group = None;
  project = shown;
  distinct = false;
  collations = [];
  order = [];
  limit = lit (Int (negsuc 0));
  offset = lit (Int (pos 0));
}

-- all rows of a tree, by the column that is shown as this term
abbrev pub all_query : ℕ → Term → List Term → Query
all_query tree first shown = record (one_query tree [] shown) { order = (first, record { collation = Binary; descending = false }) ∷ [] }

has_matched : {X Y : Type 0} (p : X → Bool) (f : X → Y) (xs : List X) (y : Y) → Has (flat_map (λ x. cond (p x) (f x ∷ []) []) xs) y → (x : X) × Has xs x × (p x ≡ true) × (y ≡ f x)
has_matched p f [] y h = absurd h
has_matched {X} {Y} p f (x ∷ xs) y h = go (p x) refl h (has_matched p f xs y)
  where
    go : (b : Bool) → p x ≡ b → Has (cond b (f x ∷ []) [] ++ flat_map (λ z. cond (p z) (f z ∷ []) []) xs) y
        → (Has (flat_map (λ z. cond (p z) (f z ∷ []) []) xs) y → (z : X) × Has xs z × (p z ≡ true) × (y ≡ f z)) → (z : X) × Has (x ∷ xs) z × (p z ≡ true) × (y ≡ f z)
    go true is (inl same) later = (x, inl refl, is, same)
    go true is (inr there) later = let r = later there in (r.0, inr r.1, r.2, r.3)
    go false is there later = let r = later there in (r.0, inr r.1, r.2, r.3)

matched_has : {X Y : Type 0} (p : X → Bool) (f : X → Y) (xs : List X) (x : X) → Has xs x → p x ≡ true → Has (flat_map (λ z. cond (p z) (f z ∷ []) []) xs) (f x)
matched_has p f [] x h passes = absurd h
matched_has p f (z ∷ xs) x (inl same) passes = rw (← same, passes) (inl refl)
matched_has p f (z ∷ xs) x (inr later) passes = has_right (cond (p z) (f z ∷ []) []) (flat_map (λ w. cond (p w) (f w ∷ []) []) xs) (f x) (matched_has p f xs x later passes)

pub has_permuted : {X : Type 0} (xs ys : List X) (x : X) → IsPermutation xs ys → Has ys x → Has xs x
has_permuted xs ys x same = all_has (Has xs) ys x (all-permutation (Has xs) xs ys same (all_from (Has xs) xs (λ e h. h)))

-- each row of the answer shows a row that passes, and each that passes is shown
pub record Shows (test shown : List Term) (rows : List Row) (params : Row) (found : List Row) : Type 0 where
  pub sound : (x : Row) → Has found x → (r : Row) × Has rows r × (list_all (holds (params ∷ r ∷ [])) test ≡ true) × (x ≡ eval_all shown (params ∷ r ∷ []))
  pub complete : (r : Row) → Has rows r → list_all (holds (params ∷ r ∷ [])) test ≡ true → Has found (eval_all shown (params ∷ r ∷ []))

pub shows : (tree : ℕ) (test shown : List Term) (db : Trees) (params : Row) (found : List Row) → IsAnswer (one_query tree test shown) db params found → Shows test shown (db tree) params found
shows tree test shown db params found answer =
    let q = one_query tree test shown in
    let passes = λ (r : Row). list_all (holds (params ∷ r ∷ [])) test in
    let env = λ (r : Row). params ∷ r ∷ [] in
    let all = matches db test (inner tree end) (params ∷ []) in
    let kept : answer.kept ≡ map (output q) all = answer.distinct ∙ ap (map (output q)) answer.grouped in
    record {
      sound = λ x h.
          let o = has_mapped (λ (k : Output). k.1) answer.ordered x (subst (λ l. Has l x) answer.shown h) in
          let e = has_mapped (output q) all o.0 (subst (λ l. Has l o.0) kept (has_permuted answer.kept answer.ordered o.0 answer.same o.1)) in
          let r = has_matched passes env (db tree) e.0 e.1 in
          (r.0, r.1, r.2, o.2 ∙ ap (λ (k : Output). k.1) (e.2 ∙ ap (output q) r.3));
      complete = λ r h ok.
          let o = output q (env r) in
          let there = subst (λ l. Has l o) (sym kept) (mapped_has (output q) all (env r) (matched_has passes env (db tree) r h ok)) in
          subst (λ l. Has l (eval_all shown (env r))) (sym answer.shown) (mapped_has (λ (k : Output). k.1) answer.ordered o (has_permuted answer.ordered answer.kept o (IsPermutation-sym _ _ answer.same) there));
    }

each_once : (rows : List Row) → flat_map (λ r. ([] ∷ r ∷ []) ∷ []) rows ≡ map (λ r. [] ∷ r ∷ []) rows
each_once [] = refl
each_once (r ∷ rows) = ap (λ l. ([] ∷ r ∷ []) ∷ l) (each_once rows)

pub map_map : {X Y Z : Type 0} (f : Y → Z) (g : X → Y) (xs : List X) → map f (map g xs) ≡ map (λ x. f (g x)) xs
map_map f g [] = refl
map_map f g (x ∷ xs) = ap (λ l. f (g x) ∷ l) (map_map f g xs)

-- the answer of the query of all rows
pub all_shown : (tree : ℕ) (first : Term) (shown : List Term) (db : Trees) (rows : List Row) → IsAnswer (all_query tree first shown) db [] rows
    → IsPermutation (map (λ r. eval_all shown ([] ∷ r ∷ [])) (db tree)) rows
all_shown tree first shown db rows a =
    let q = all_query tree first shown in
    let kept : a.kept ≡ map (output q) (map (λ r. [] ∷ r ∷ []) (db tree)) = a.distinct ∙ ap (map (output q)) (a.grouped ∙ each_once (db tree)) in
    let both : map (λ (o : Output). o.1) a.kept ≡ map (λ r. eval_all shown ([] ∷ r ∷ [])) (db tree) =
    ap (map (λ (o : Output). o.1)) kept ∙ map_map (λ (o : Output). o.1) (output q) _ ∙ map_map (λ e. (output q e).1) (λ r. [] ∷ r ∷ []) (db tree) in
    let same = IsPermutation-map (λ (o : Output). o.1) a.kept a.ordered a.same in
    subst (λ l. IsPermutation l rows) both (subst (IsPermutation (map (λ (o : Output). o.1) a.kept)) (sym a.shown) same)
