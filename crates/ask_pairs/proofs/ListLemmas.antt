-- Reading items one after the other, as a loop does.
use Rattle.std.proofs.Common.{◌≡◌, ℕ, suc, ◌+◌, ◌<◌, List, [], ◌∷◌, ◌++◌, length, get_or, drop, drop-cons, add-one, Some, None, refl, sym, ap, ◌∙◌, append_assoc, append-nil, arith}
use Rattle.std.specs.Prelude.{Option, map}
use Rattle.ask_pairs.specs.Lists.{with_first, all_of}

-- what was read before, and what is still read
abbrev pub behind : {A : Type 0} → List A → Option (List A) → Option (List A)
behind front (Some xs) = Some (front ++ xs)
behind front None = None

regroup : {A : Type 0} (front : List A) (x : A) (rest : Option (List A)) → behind front (with_first (Some x) rest) ≡ behind (front ++ x ∷ []) rest
regroup front x (Some xs) = ap (λ ys. Some ys) (sym (append_assoc front (x ∷ []) xs))
regroup front x None = refl

module _ {A B : Type 0} (read : List ℕ → Option A) (text : B → List ℕ) where
  next : (ts : List B) (i : ℕ) (d : B) → i < length ts → all_of read (map text (drop i ts)) ≡ with_first (read (text (get_or ts i d))) (all_of read (map text (drop (i + 1) ts)))
  unfolding all_of
  next ts i d lt = rw (drop-cons ts i d, add-one) refl

  -- one more item is read
  pub goes_on : (front : List A) (ts : List B) (i : ℕ) (d : B) (x : A) (total : Option (List A))
      → i < length ts → read (text (get_or ts i d)) ≡ Some x
      → behind front (all_of read (map text (drop i ts))) ≡ total
      → behind (front ++ x ∷ []) (all_of read (map text (drop (i + 1) ts))) ≡ total
  goes_on front ts i d x total lt is so_far =
      let one : behind front (all_of read (map text (drop i ts))) ≡ behind (front ++ x ∷ []) (all_of read (map text (drop (i + 1) ts))) =
      rw (next ts i d lt, is) (regroup front x (all_of read (map text (drop (i + 1) ts)))) in
      sym one ∙ so_far

  -- an item outside its grammar ends it all
  pub stops_at : (front : List A) (ts : List B) (i : ℕ) (d : B) (total : Option (List A))
      → i < length ts → read (text (get_or ts i d)) ≡ None
      → behind front (all_of read (map text (drop i ts))) ≡ total → total ≡ None
  stops_at front ts i d total lt is so_far =
      let one : behind front (all_of read (map text (drop i ts))) ≡ None = rw (next ts i d lt, is) refl in
      sym so_far ∙ one

  -- no item is left
  pub ends : (front : List A) (ts : List B) (i : ℕ) (total : Option (List A))
      → drop i ts ≡ [] → behind front (all_of read (map text (drop i ts))) ≡ total → total ≡ Some front
  unfolding all_of
  ends front ts i total none so_far =
      let one : behind front (all_of read (map text (drop i ts))) ≡ Some front = rw none (ap (λ ys. Some ys) (append-nil front)) in
      sym so_far ∙ one
