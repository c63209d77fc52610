-- The levels that are reached, up to one more.
use Rattle.std.proofs.Common.{◌≡◌, ℕ, ◌+◌, List, [], ◌∷◌, ◌++◌, cond, map, arith, refl, ap, sym, ◌∙◌}
use Rattle.std.specs.List.{filter, range_with_len}
use Rattle.std.proofs.lemmas.List.FromFn.{filter_of_map_range_with_len_more}
use Rattle.flow_tree.specs.declared.exec.Exec.{Exec}
use Rattle.flow_tree.specs.Flow.{level_holds}
use Rattle.flow_truths.specs.Granted.{levels_reached}

map_same : (ns : List ℕ) → map (λ n. n) ns ≡ ns
map_same [] = refl
map_same (n ∷ ns) = ap (λ ms. n ∷ ms) (map_same ns)

pub reached_more : (t : List (List ℕ)) (n : ℕ) (tree : List Exec) → levels_reached t (n + 1) tree ≡ levels_reached t n tree ++ cond (level_holds t (n + 1) tree) ((n + 1) ∷ []) []
reached_more t n tree =
    let p = λ (l : ℕ). level_holds t l tree in
    ap (filter p) (sym (map_same (range_with_len 1 (n + 1))))
    ∙ filter_of_map_range_with_len_more p (λ (l : ℕ). l) 1 n (n + 1) (omega arith)
    ∙ ap (λ (ls : List ℕ). filter p ls ++ cond (p (n + 1)) ((n + 1) ∷ []) []) (map_same (range_with_len 1 n))
