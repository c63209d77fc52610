-- What a put and a drop do to the rows of a table in order.
use Rattle.std.proofs.Common.{◌≡◌, Bool, true, false, cond, List, [], ◌∷◌, map, Ordering, Less, Equal, Greater, refl, sym, ap, subst, ◌∙◌}
use Rattle.std.specs.Prelude.{Option, Some, None}
use Rattle.std.specs.Cmp.{IsTotalOrder}
use Rattle.std.specs.List.{list_any, AllByRecursion}
use Rattle.std.specs.List.Sorted.{IsStrictlySortedBy}
use Rattle.std.specs.Ordering.{is_eq, ordering_reverse}
use Rattle.std.proofs.lemmas.Bool.{false≢true}
use Rattle.std.proofs.lemmas.Cmp.{tied_itself}
use Rattle.std.proofs.lemmas.Map.Lookups.{CmpEqualImpliesEq}
use Rattle.keeper_rows.specs.Keys.{replace_first, insert_before, remove_first, has_key, put, dropped}
use Rattle.fact_rows.specs.StandFor.{AreAscending, row_of}

module _ {R K : Type 0} {cmp : K → K → Ordering} (total : IsTotalOrder cmp) (exact : CmpEqualImpliesEq cmp) (key : R → K) where
  abbrev below : K → List K → Type 0
  below k ks = AllByRecursion (λ other. cmp k other ≡ Less) ks

  flipped : (x y : K) → cmp x y ≡ Greater → cmp y x ≡ Less
  flipped x y h = total.antisymm y x ∙ ap ordering_reverse h

  flipped_less : (x y : K) → cmp x y ≡ Less → cmp y x ≡ Greater
  flipped_less x y h = total.antisymm y x ∙ ap ordering_reverse h

  far : (low high : K) → cmp low high ≡ Less → (ks : List K) → below high ks → below low ks
  far low high less [] all = tt
  far low high less (k ∷ ks) all = (total.trans low high k less all.0, far low high less ks all.1)

  none_here : (k : K) (rows : List R) → below k (map key rows) → list_any (has_key cmp key k) rows ≡ false
  none_here k [] all = refl
  none_here k (r ∷ rows) all = rw (ap is_eq (flipped_less k (key r) all.0)) (none_here k rows all.1)

  not_found : (k : K) (rows : List R) → below k (map key rows) → row_of cmp key rows k ≡ None
  not_found k [] all = refl
  not_found k (r ∷ rows) all = rw (ap is_eq (flipped_less k (key r) all.0)) (not_found k rows all.1)

  -- ---- puts

  put_less : (row r : R) (rows : List R) → cmp (key r) (key row) ≡ Less → put cmp key row (r ∷ rows) ≡ r ∷ put cmp key row rows
  unfolding replace_first insert_before
  put_less row r rows less = go (list_any (has_key cmp key (key row)) rows) refl
    where
      go : (b : Bool) → list_any (has_key cmp key (key row)) rows ≡ b → put cmp key row (r ∷ rows) ≡ r ∷ put cmp key row rows
      go true is = rw (less, is) refl
      go false is = rw (less, is) refl

  put_equal : (row r : R) (rows : List R) → cmp (key r) (key row) ≡ Equal → put cmp key row (r ∷ rows) ≡ row ∷ rows
  unfolding replace_first
  put_equal row r rows same = rw same refl

  put_greater : (row r : R) (rows : List R) → cmp (key r) (key row) ≡ Greater → below (key r) (map key rows) → put cmp key row (r ∷ rows) ≡ row ∷ r ∷ rows
  unfolding insert_before
  put_greater row r rows greater up =
      rw (greater, none_here (key row) rows (far (key row) (key r) (flipped (key r) (key row) greater) (map key rows) up)) refl

  put_first : (row : R) → put cmp key row [] ≡ row ∷ []
  unfolding insert_before
  put_first row = refl

  abbrev or_row : R → K → Option R → Option R
  or_row row k found = cond (is_eq (cmp (key row) k)) (Some row) found

  pub found_put : (row : R) (rows : List R) (k : K) → AreAscending cmp key rows → row_of cmp key (put cmp key row rows) k ≡ or_row row k (row_of cmp key rows k)
  unfolding IsStrictlySortedBy
  found_put row [] k up = rw (put_first row) refl
  found_put row (r ∷ rows) k up = go (cmp (key r) (key row)) refl (found_put row rows k up.1)
    where
      same_apart : cmp (key r) (key row) ≡ Less → (o : Ordering) → cmp (key r) k ≡ o → (p : Ordering) → cmp (key row) k ≡ p
          → cond (is_eq o) (Some r) (cond (is_eq p) (Some row) (row_of cmp key rows k)) ≡ cond (is_eq p) (Some row) (cond (is_eq o) (Some r) (row_of cmp key rows k))
      same_apart less Less e Less f = refl
      same_apart less Less e Equal f = refl
      same_apart less Less e Greater f = refl
      same_apart less Equal e Less f = refl
      same_apart less Equal e Equal f =
          let same : key r ≡ key row = exact (key r) k e ∙ sym (exact (key row) k f) in
          let tied : cmp (key r) (key row) ≡ Equal = subst (λ x. cmp (key r) x ≡ Equal) same (tied_itself total (key r)) in
          absurd cc
      same_apart less Equal e Greater f = refl
      same_apart less Greater e Less f = refl
      same_apart less Greater e Equal f = refl
      same_apart less Greater e Greater f = refl

      replaced : cmp (key r) (key row) ≡ Equal → (p : Ordering) → cmp (key row) k ≡ p
          → cond (is_eq p) (Some row) (row_of cmp key rows k) ≡ cond (is_eq p) (Some row) (cond (is_eq (cmp (key r) k)) (Some r) (row_of cmp key rows k))
      replaced same Less f = rw (exact (key r) (key row) same, f) refl
      replaced same Equal f = refl
      replaced same Greater f = rw (exact (key r) (key row) same, f) refl

      go : (o : Ordering) → cmp (key r) (key row) ≡ o → row_of cmp key (put cmp key row rows) k ≡ or_row row k (row_of cmp key rows k)
          → row_of cmp key (put cmp key row (r ∷ rows)) k ≡ or_row row k (row_of cmp key (r ∷ rows) k)
      go Less e later = rw (put_less row r rows e, later) (same_apart e (cmp (key r) k) refl (cmp (key row) k) refl)
      go Equal e later = rw (put_equal row r rows e) (replaced e (cmp (key row) k) refl)
      go Greater e later = rw (put_greater row r rows e up.0) refl

  below_put : (k : K) (row : R) (rows : List R) → cmp k (key row) ≡ Less → AreAscending cmp key rows → below k (map key rows) → below k (map key (put cmp key row rows))
  unfolding IsStrictlySortedBy
  below_put k row [] less up all = rw (put_first row) (less, tt)
  below_put k row (r ∷ rows) less up all = go (cmp (key r) (key row)) refl (below_put k row rows less up.1 all.1)
    where
      go : (o : Ordering) → cmp (key r) (key row) ≡ o → below k (map key (put cmp key row rows)) → below k (map key (put cmp key row (r ∷ rows)))
      go Less e later = rw (put_less row r rows e) (all.0, later)
      go Equal e later = rw (put_equal row r rows e) (less, all.1)
      go Greater e later = rw (put_greater row r rows e up.0) (less, all)

  pub ascending_put : (row : R) (rows : List R) → AreAscending cmp key rows → AreAscending cmp key (put cmp key row rows)
  unfolding IsStrictlySortedBy
  ascending_put row [] up = rw (put_first row) (tt, tt)
  ascending_put row (r ∷ rows) up = go (cmp (key r) (key row)) refl (ascending_put row rows up.1)
    where
      go : (o : Ordering) → cmp (key r) (key row) ≡ o → AreAscending cmp key (put cmp key row rows) → AreAscending cmp key (put cmp key row (r ∷ rows))
      go Less e later = rw (put_less row r rows e) (below_put (key r) row rows e up.1 up.0, later)
      go Equal e later = rw (put_equal row r rows e) (subst (λ x. below x (map key rows)) (exact (key r) (key row) e) up.0, up.1)
      go Greater e later =
          let less = flipped (key r) (key row) e in
          rw (put_greater row r rows e up.0) ((less, far (key row) (key r) less (map key rows) up.0), up)

  -- ---- drops

  abbrev but : K → K → Option R → Option R
  but gone k found = cond (is_eq (cmp gone k)) None found

  drop_equal : (gone : K) (r : R) (rows : List R) → cmp (key r) gone ≡ Equal → dropped cmp key gone (r ∷ rows) ≡ rows
  unfolding remove_first
  drop_equal gone r rows e = rw e refl

  drop_other : (gone : K) (r : R) (rows : List R) → is_eq (cmp (key r) gone) ≡ false → dropped cmp key gone (r ∷ rows) ≡ r ∷ dropped cmp key gone rows
  unfolding remove_first
  drop_other gone r rows e = rw e refl

  drop_first : (gone : K) → dropped cmp key gone [] ≡ []
  unfolding remove_first
  drop_first gone = refl

  pub found_drop : (gone : K) (rows : List R) (k : K) → AreAscending cmp key rows → row_of cmp key (dropped cmp key gone rows) k ≡ but gone k (row_of cmp key rows k)
  unfolding IsStrictlySortedBy
  found_drop gone [] k up = rw (drop_first gone) (none (is_eq (cmp gone k)))
    where
      none : (b : Bool) → ◌≡◌ {A = Option R} None (cond b None None)
      none true = refl
      none false = refl
  found_drop gone (r ∷ rows) k up = go (cmp (key r) gone) refl (found_drop gone rows k up.1)
    where
      left : cmp (key r) gone ≡ Equal → (p : Ordering) → cmp gone k ≡ p → row_of cmp key rows k ≡ cond (is_eq p) None (cond (is_eq (cmp (key r) k)) (Some r) (row_of cmp key rows k))
      left same Less f = rw (exact (key r) gone same, f) refl
      left same Equal f =
          let own : key r ≡ k = exact (key r) gone same ∙ exact gone k f in
          not_found k rows (subst (λ x. below x (map key rows)) own up.0)
      left same Greater f = rw (exact (key r) gone same, f) refl

      kept : is_eq (cmp (key r) gone) ≡ false → (o : Ordering) → cmp (key r) k ≡ o → (p : Ordering) → cmp gone k ≡ p
          → cond (is_eq o) (Some r) (cond (is_eq p) None (row_of cmp key rows k)) ≡ cond (is_eq p) None (cond (is_eq o) (Some r) (row_of cmp key rows k))
      kept other Equal e Equal f =
          let same : key r ≡ gone = exact (key r) k e ∙ sym (exact gone k f) in
          let tied : cmp (key r) gone ≡ Equal = subst (λ x. cmp (key r) x ≡ Equal) same (tied_itself total (key r)) in
          absurd (false≢true (sym other ∙ ap is_eq tied))
      kept other Less e Less f = refl
      kept other Less e Equal f = refl
      kept other Less e Greater f = refl
      kept other Equal e Less f = refl
      kept other Equal e Greater f = refl
      kept other Greater e Less f = refl
      kept other Greater e Equal f = refl
      kept other Greater e Greater f = refl

      go : (o : Ordering) → cmp (key r) gone ≡ o → row_of cmp key (dropped cmp key gone rows) k ≡ but gone k (row_of cmp key rows k)
          → row_of cmp key (dropped cmp key gone (r ∷ rows)) k ≡ but gone k (row_of cmp key (r ∷ rows) k)
      go Less e later = rw (drop_other gone r rows (ap is_eq e), later) (kept (ap is_eq e) (cmp (key r) k) refl (cmp gone k) refl)
      go Equal e later = rw (drop_equal gone r rows e) (left e (cmp gone k) refl)
      go Greater e later = rw (drop_other gone r rows (ap is_eq e), later) (kept (ap is_eq e) (cmp (key r) k) refl (cmp gone k) refl)

  below_drop : (gone k : K) (rows : List R) → below k (map key rows) → below k (map key (dropped cmp key gone rows))
  below_drop gone k [] all = rw (drop_first gone) tt
  below_drop gone k (r ∷ rows) all = go (cmp (key r) gone) refl (below_drop gone k rows all.1)
    where
      go : (o : Ordering) → cmp (key r) gone ≡ o → below k (map key (dropped cmp key gone rows)) → below k (map key (dropped cmp key gone (r ∷ rows)))
      go Less e later = rw (drop_other gone r rows (ap is_eq e)) (all.0, later)
      go Equal e later = rw (drop_equal gone r rows e) all.1
      go Greater e later = rw (drop_other gone r rows (ap is_eq e)) (all.0, later)

  pub ascending_drop : (gone : K) (rows : List R) → AreAscending cmp key rows → AreAscending cmp key (dropped cmp key gone rows)
  unfolding IsStrictlySortedBy
  ascending_drop gone [] up = rw (drop_first gone) tt
  ascending_drop gone (r ∷ rows) up = go (cmp (key r) gone) refl (ascending_drop gone rows up.1)
    where
      go : (o : Ordering) → cmp (key r) gone ≡ o → AreAscending cmp key (dropped cmp key gone rows) → AreAscending cmp key (dropped cmp key gone (r ∷ rows))
      go Less e later = rw (drop_other gone r rows (ap is_eq e)) (below_drop gone (key r) rows up.0, later)
      go Equal e later = rw (drop_equal gone r rows e) up.1
      go Greater e later = rw (drop_other gone r rows (ap is_eq e)) (below_drop gone (key r) rows up.0, later)
