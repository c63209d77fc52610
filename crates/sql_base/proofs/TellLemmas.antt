-- What rows by their keys tell, and what a change of one row does to them.
use Rattle.std.proofs.Common.{◌≡◌, ◌⊎◌, inl, inr, Bool, true, false, cond, List, [], ◌∷◌, Ordering, Less, Equal, Greater, refl, sym, ap, subst, ◌∙◌, true≢false}
use Rattle.std.specs.Prelude.{fold}
use Rattle.std.specs.Cmp.{IsTotalOrder}
use Rattle.std.specs.Ordering.{is_eq, is_gt, ordering_reverse}
use Rattle.std.specs.List.{list_any}
use Rattle.std.proofs.lemmas.Bool.{cases_Bool}
use Rattle.std.proofs.lemmas.Cmp.{tied_itself, alike_right}
use Rattle.keeper_rows.specs.Keys.{replace_first, insert_before, remove_first, has_key, is_past, placed, put, dropped}
use Rattle.sqlite_rules.specs.Lists.{Has}
use Rattle.sqlite_rules.proofs.ListLemmas.{all_has, all_from, some_has, some_from}
use Rattle.sqlite_trees.specs.Tree.{IsAscending}
use Rattle.sql_base.specs.Told.{by_key}
use Rattle.sql_base.specs.Ready.{AreApart}

-- each key is below each later one
abbrev pub IsRising : {R K : Type 0} → (K → K → Ordering) → (R → K) → List R → Type 0
IsRising cmp key rows = IsAscending (λ a b. cmp (key a) (key b) ≡ Less) rows

-- each has what the other has
pub record AreAlike {R : Type 0} (xs ys : List R) : Type 0 where
  pub there : (x : R) → Has xs x → Has ys x
  pub back : (x : R) → Has ys x → Has xs x

module _ {R K : Type 0} {cmp : K → K → Ordering} (total : IsTotalOrder cmp) (key : R → K) where
  abbrev Below : R → R → Type 0
  Below a b = cmp (key a) (key b) ≡ Less

  never_itself : (a : R) → Below a a → ⊥
  never_itself a h = let e = sym h ∙ tied_itself total (key a) in cc

  never_both : (a b : R) → Below a b → Below b a → ⊥
  never_both a b h g = never_itself a (total.trans (key a) (key b) (key a) h g)

  -- rising lists with the same rows are equal
  pub rising_same : (xs ys : List R) → IsRising cmp key xs → IsRising cmp key ys → AreAlike xs ys → xs ≡ ys
  rising_same [] [] up vp alike = refl
  rising_same [] (y ∷ ys) up vp alike = absurd (alike.back y (inl refl))
  rising_same (x ∷ xs) [] up vp alike = absurd (alike.there x (inl refl))
  rising_same (x ∷ xs) (y ∷ ys) up vp alike =
      let first : x ≡ y = elim (alike.there x (inl refl)) [
        | inl same ↦ same
        | inr later ↦ elim (alike.back y (inl refl)) [
          | inl same ↦ sym same
          | inr behind ↦ absurd (never_both x y (all_has _ xs y up.0 behind) (all_has _ ys x vp.0 later))
        ]
      ] in
      let there : (z : R) → Has xs z → Has ys z = λ z h. elim (alike.there z (inr h)) [
        | inl same ↦ absurd (never_itself x (subst (Below x) (same ∙ sym first) (all_has _ xs z up.0 h)))
        | inr later ↦ later
      ] in
      let back : (z : R) → Has ys z → Has xs z = λ z h. elim (alike.back z (inr h)) [
        | inl same ↦ absurd (never_itself y (subst (Below y) (same ∙ first) (all_has _ ys z vp.0 h)))
        | inr later ↦ later
      ] in
      ap (λ z. z ∷ xs) first ∙ ap (λ zs. y ∷ zs) (rising_same xs ys up.1 vp.1 (record { there = there; back = back }))

  -- ---- a row that is placed by its key

  -- the keys differ
  abbrev Differ : R → R → Type 0
  Differ a b = is_eq (cmp (key a) (key b)) ≡ false

  has_placed : (row : R) (rows : List R) (x : R) → Has (placed cmp key row rows) x → (x ≡ row) ⊎ Has rows x
  unfolding insert_before
  has_placed row [] x h = h
  has_placed row (r ∷ rows) x h = go (is_past cmp key (key row) r) h (has_placed row rows x)
    where
      go : (b : Bool) → Has (cond b (row ∷ r ∷ rows) (r ∷ placed cmp key row rows)) x → (Has (placed cmp key row rows) x → (x ≡ row) ⊎ Has rows x) → (x ≡ row) ⊎ Has (r ∷ rows) x
      go true h later = h
      go false (inl same) later = inr (inl same)
      go false (inr g) later = elim (later g) [ inl same ↦ inl same | inr there ↦ inr (inr there) ]

  placed_row : (row : R) (rows : List R) → Has (placed cmp key row rows) row
  unfolding insert_before
  placed_row row [] = inl refl
  placed_row row (r ∷ rows) = go (is_past cmp key (key row) r) (placed_row row rows)
    where
      go : (b : Bool) → Has (placed cmp key row rows) row → Has (cond b (row ∷ r ∷ rows) (r ∷ placed cmp key row rows)) row
      go true later = inl refl
      go false later = inr later

  placed_has : (row : R) (rows : List R) (x : R) → Has rows x → Has (placed cmp key row rows) x
  unfolding insert_before
  placed_has row [] x h = absurd h
  placed_has row (r ∷ rows) x h = go (is_past cmp key (key row) r) h (placed_has row rows x)
    where
      go : (b : Bool) → Has (r ∷ rows) x → (Has rows x → Has (placed cmp key row rows) x) → Has (cond b (row ∷ r ∷ rows) (r ∷ placed cmp key row rows)) x
      go true h later = inr h
      go false (inl same) later = inl same
      go false (inr g) later = inr (later g)

  placed_rising : (row : R) (rows : List R) → IsRising cmp key rows → ((x : R) → Has rows x → Differ x row) → IsRising cmp key (placed cmp key row rows)
  unfolding insert_before
  placed_rising row [] up apart = (tt, tt)
  placed_rising row (r ∷ rows) up apart = go (cmp (key r) (key row)) refl (placed_rising row rows up.1 (λ x h. apart x (inr h)))
    where
      go : (o : Ordering) → cmp (key r) (key row) ≡ o → IsRising cmp key (placed cmp key row rows) → IsRising cmp key (cond (is_gt (cmp (key r) (key row))) (row ∷ r ∷ rows) (r ∷ placed cmp key row rows))
      go Less e later = rw e (all_from _ (placed cmp key row rows) (λ x h. elim (has_placed row rows x h) [ inl same ↦ subst (Below r) (sym same) e | inr there ↦ all_has _ rows x up.0 there ]), later)
      go Equal e later = absurd (true≢false (sym (ap is_eq e) ∙ apart r (inl refl)))
      go Greater e later =
          let first : Below row r = total.antisymm (key row) (key r) ∙ ap ordering_reverse e in
          rw e ((first, all_from _ rows (λ x h. total.trans (key row) (key r) (key x) first (all_has _ rows x up.0 h))), up)

  -- ---- rows by their keys

  abbrev from : List R → List R → List R
  from done rows = fold (λ told row. placed cmp key row told) done rows

  has_from : (done rows : List R) (x : R) → Has (from done rows) x → Has done x ⊎ Has rows x
  has_from done [] x h = inl h
  has_from done (r ∷ rows) x h = elim (has_from (placed cmp key r done) rows x h) [
    | inl there ↦ elim (has_placed r done x there) [ inl same ↦ inr (inl same) | inr early ↦ inl early ]
    | inr later ↦ inr (inr later)
  ]

  from_done : (done rows : List R) (x : R) → Has done x → Has (from done rows) x
  from_done done [] x h = h
  from_done done (r ∷ rows) x h = from_done (placed cmp key r done) rows x (placed_has r done x h)

  from_rows : (done rows : List R) (x : R) → Has rows x → Has (from done rows) x
  from_rows done [] x h = absurd h
  from_rows done (r ∷ rows) x (inl same) = from_done (placed cmp key r done) rows x (subst (Has (placed cmp key r done)) (sym same) (placed_row r done))
  from_rows done (r ∷ rows) x (inr later) = from_rows (placed cmp key r done) rows x later

  from_rising : (done rows : List R) → IsRising cmp key done → AreApart cmp key rows → ((x y : R) → Has done x → Has rows y → Differ x y) → IsRising cmp key (from done rows)
  from_rising done [] up apart cross = up
  from_rising done (r ∷ rows) up apart cross =
      from_rising (placed cmp key r done) rows (placed_rising r done up (λ x h. cross x r h (inl refl))) apart.1 (λ x y h g. elim (has_placed r done x h) [
        | inl same ↦ subst (λ z. Differ z y) (sym same) (all_has _ rows y apart.0 g)
        | inr early ↦ cross x y early (inr g)
      ])

  pub told_rising : (rows : List R) → AreApart cmp key rows → IsRising cmp key (by_key cmp key rows)
  told_rising rows apart = from_rising [] rows tt apart (λ x y h g. absurd h)

  pub told_alike : (rows : List R) → AreAlike (by_key cmp key rows) rows
  told_alike rows = record {
    there = λ x h. elim (has_from [] rows x h) [ inl none ↦ absurd none | inr there ↦ there ];
    back = λ x h. from_rows [] rows x h;
  }

  -- rows that rise are told as they are
  pub told_same : (rows told : List R) → AreApart cmp key rows → IsRising cmp key told → AreAlike rows told → by_key cmp key rows ≡ told
  told_same rows told apart up alike =
      let own = told_alike rows in
      rising_same (by_key cmp key rows) told (told_rising rows apart) up (record { there = λ x h. alike.there x (own.there x h); back = λ x h. own.back x (alike.back x h) })

  -- ---- the row of a key, among rows that rise

  abbrev Is : K → R → Bool
  Is k x = has_key cmp key k x

  tied_of : (o : Ordering) → is_eq o ≡ true → o ≡ Equal
  tied_of Less e = absurd (true≢false (sym e))
  tied_of Equal e = refl
  tied_of Greater e = absurd (true≢false (sym e))

  later_differs : (r x : R) (k : K) → Is k r ≡ true → Below r x → Is k x ≡ false
  later_differs r x k is h =
      let tied : cmp (key r) k ≡ Equal = tied_of (cmp (key r) k) is in
      let below : cmp k (key x) ≡ Less = sym (total.congr (key r) k (key x) tied) ∙ h in
      ap is_eq (total.antisymm (key x) k ∙ ap ordering_reverse below)

  pub removed_there : (k : K) (rows : List R) → IsRising cmp key rows → (x : R) → Has (dropped cmp key k rows) x → Has rows x × (Is k x ≡ false)
  unfolding remove_first
  removed_there k [] up x h = absurd h
  removed_there k (r ∷ rows) up x h = go (Is k r) refl h (removed_there k rows up.1 x)
    where
      go : (b : Bool) → Is k r ≡ b → Has (cond b rows (r ∷ dropped cmp key k rows)) x → (Has (dropped cmp key k rows) x → Has rows x × (Is k x ≡ false)) → Has (r ∷ rows) x × (Is k x ≡ false)
      go true is h later = (inr h, later_differs r x k is (all_has _ rows x up.0 h))
      go false is (inl same) later = (inl same, ap (Is k) same ∙ is)
      go false is (inr g) later = let it = later g in (inr it.0, it.1)

  pub removed_back : (k : K) (rows : List R) (x : R) → Has rows x → Is k x ≡ false → Has (dropped cmp key k rows) x
  unfolding remove_first
  removed_back k [] x h other = absurd h
  removed_back k (r ∷ rows) x h other = go (Is k r) refl h (removed_back k rows x)
    where
      go : (b : Bool) → Is k r ≡ b → Has (r ∷ rows) x → (Has rows x → Is k x ≡ false → Has (dropped cmp key k rows) x) → Has (cond b rows (r ∷ dropped cmp key k rows)) x
      go true is (inl same) later = absurd (true≢false (sym is ∙ sym (ap (Is k) same) ∙ other))
      go true is (inr g) later = g
      go false is (inl same) later = inl same
      go false is (inr g) later = inr (later g other)

  pub removed_rising : (k : K) (rows : List R) → IsRising cmp key rows → IsRising cmp key (dropped cmp key k rows)
  unfolding remove_first
  removed_rising k [] up = tt
  removed_rising k (r ∷ rows) up = go (Is k r) (removed_rising k rows up.1)
    where
      go : (b : Bool) → IsRising cmp key (dropped cmp key k rows) → IsRising cmp key (cond b rows (r ∷ dropped cmp key k rows))
      go true later = up.1
      go false later = (all_from _ (dropped cmp key k rows) (λ x h. all_has _ rows x up.0 (removed_there k rows up.1 x h).0), later)

  -- ---- a row in place of the one of its key

  abbrev replaced : R → List R → List R
  replaced row rows = replace_first (Is (key row)) row rows

  replaced_there : (row : R) (rows : List R) → IsRising cmp key rows → (x : R) → Has (replaced row rows) x → (x ≡ row) ⊎ (Has rows x × (Is (key row) x ≡ false))
  unfolding replace_first
  replaced_there row [] up x h = absurd h
  replaced_there row (r ∷ rows) up x h = go (Is (key row) r) refl h (replaced_there row rows up.1 x)
    where
      go : (b : Bool) → Is (key row) r ≡ b → Has (cond b (row ∷ rows) (r ∷ replaced row rows)) x
          → (Has (replaced row rows) x → (x ≡ row) ⊎ (Has rows x × (Is (key row) x ≡ false))) → (x ≡ row) ⊎ (Has (r ∷ rows) x × (Is (key row) x ≡ false))
      go true is (inl same) later = inl same
      go true is (inr g) later = inr (inr g, later_differs r x (key row) is (all_has _ rows x up.0 g))
      go false is (inl same) later = inr (inl same, ap (Is (key row)) same ∙ is)
      go false is (inr g) later = elim (later g) [ inl same ↦ inl same | inr it ↦ inr (inr it.0, it.1) ]

  replaced_row : (row : R) (rows : List R) (x : R) → Has rows x → Is (key row) x ≡ true → Has (replaced row rows) row
  unfolding replace_first
  replaced_row row [] x h is = absurd h
  replaced_row row (r ∷ rows) x h is = go (Is (key row) r) refl h (replaced_row row rows x)
    where
      go : (b : Bool) → Is (key row) r ≡ b → Has (r ∷ rows) x → (Has rows x → Is (key row) x ≡ true → Has (replaced row rows) row) → Has (cond b (row ∷ rows) (r ∷ replaced row rows)) row
      go true own h later = inl refl
      go false own (inl same) later = absurd (true≢false (sym is ∙ ap (Is (key row)) same ∙ own))
      go false own (inr g) later = inr (later g is)

  replaced_back : (row : R) (rows : List R) (x : R) → Has rows x → Is (key row) x ≡ false → Has (replaced row rows) x
  unfolding replace_first
  replaced_back row [] x h other = absurd h
  replaced_back row (r ∷ rows) x h other = go (Is (key row) r) refl h (replaced_back row rows x)
    where
      go : (b : Bool) → Is (key row) r ≡ b → Has (r ∷ rows) x → (Has rows x → Is (key row) x ≡ false → Has (replaced row rows) x) → Has (cond b (row ∷ rows) (r ∷ replaced row rows)) x
      go true own (inl same) later = absurd (true≢false (sym own ∙ sym (ap (Is (key row)) same) ∙ other))
      go true own (inr g) later = inr g
      go false own (inl same) later = inl same
      go false own (inr g) later = inr (later g other)

  replaced_rising : (row : R) (rows : List R) (x : R) → Has rows x → Is (key row) x ≡ true → IsRising cmp key rows → IsRising cmp key (replaced row rows)
  unfolding replace_first
  replaced_rising row [] x h is up = absurd h
  replaced_rising row (r ∷ rows) x h is up = go (Is (key row) r) refl h (λ g. replaced_rising row rows x g is up.1)
    where
      go : (b : Bool) → Is (key row) r ≡ b → Has (r ∷ rows) x → (Has rows x → IsRising cmp key (replaced row rows)) → IsRising cmp key (cond b (row ∷ rows) (r ∷ replaced row rows))
      go true own h later =
          let tied = tied_of (cmp (key r) (key row)) own in
          (all_from _ rows (λ z g. sym (total.congr (key r) (key row) (key z) tied) ∙ all_has _ rows z up.0 g), up.1)
      go false own (inl same) later = absurd (true≢false (sym is ∙ ap (Is (key row)) same ∙ own))
      go false own (inr g) later =
          let tied = tied_of (cmp (key x) (key row)) is in
          let first : Below r row = sym (alike_right total (key x) (key row) (key r) tied) ∙ all_has _ rows x up.0 g in
          (all_from _ (replaced row rows) (λ z k. elim (replaced_there row rows up.1 z k) [ inl same ↦ subst (Below r) (sym same) first | inr it ↦ all_has _ rows z up.0 it.0 ]), later g)

  -- ---- puts and drops

  -- the rows are those that have another key, and the one that is put
  pub record ArePut (row : R) (old new : List R) : Type 0 where
    pub there : (x : R) → Has new x → (x ≡ row) ⊎ (Has old x × (Is (key row) x ≡ false))
    pub has : Has new row
    pub back : (x : R) → Has old x → Is (key row) x ≡ false → Has new x

  -- the rows are those that have another key
  pub record AreLeft (k : K) (old new : List R) : Type 0 where
    pub there : (x : R) → Has new x → Has old x × (Is k x ≡ false)
    pub back : (x : R) → Has old x → Is k x ≡ false → Has new x

  put_rising : (row : R) (rows : List R) → IsRising cmp key rows → IsRising cmp key (put cmp key row rows) × ArePut row rows (put cmp key row rows)
  put_rising row rows up = elim (cases_Bool (list_any (Is (key row)) rows)) [
    | inl some ↦ let it = some_has (Is (key row)) rows some in rw some (
      replaced_rising row rows it.0 it.1 it.2 up,
      record {
        there = replaced_there row rows up;
        has = replaced_row row rows it.0 it.1 it.2;
        back = replaced_back row rows;
      },
    )
    | inr none ↦ let apart : (x : R) → Has rows x → Is (key row) x ≡ false = λ x h. elim (cases_Bool (Is (key row) x)) [ inl is ↦ absurd (true≢false (sym (some_from (Is (key row)) rows x h is) ∙ none)) | inr other ↦ other ] in
        rw none (
          placed_rising row rows up apart,
          record {
            there = λ x h. elim (has_placed row rows x h) [ inl same ↦ inl same | inr there ↦ inr (there, apart x there) ];
            has = placed_row row rows;
            back = λ x h other. placed_has row rows x h;
          },
        )
  ]

  pub told_put : (row : R) (old new : List R) → AreApart cmp key old → AreApart cmp key new → ArePut row old new → by_key cmp key new ≡ put cmp key row (by_key cmp key old)
  told_put row old new apart still are =
      let before = told_alike old in
      let it = put_rising row (by_key cmp key old) (told_rising old apart) in
      told_same new (put cmp key row (by_key cmp key old)) still it.0 (record {
        there = λ x h. elim (are.there x h) [
          | inl same ↦ subst (Has (put cmp key row (by_key cmp key old))) (sym same) it.1.has
          | inr was ↦ it.1.back x (before.back x was.0) was.1
        ];
        back = λ x h. elim (it.1.there x h) [
          | inl same ↦ subst (Has new) (sym same) are.has
          | inr was ↦ are.back x (before.there x was.0) was.1
        ];
      })

  pub told_drop : (k : K) (old new : List R) → AreApart cmp key old → AreApart cmp key new → AreLeft k old new → by_key cmp key new ≡ dropped cmp key k (by_key cmp key old)
  told_drop k old new apart still are =
      let before = told_alike old in
      let up = told_rising old apart in
      told_same new (dropped cmp key k (by_key cmp key old)) still (removed_rising k (by_key cmp key old) up) (record {
        there = λ x h. let was = are.there x h in removed_back k (by_key cmp key old) x (before.back x was.0) was.1;
        back = λ x h. let was = removed_there k (by_key cmp key old) up x h in are.back x (before.there x was.0) was.1;
      })
