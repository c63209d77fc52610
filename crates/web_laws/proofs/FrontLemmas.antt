-- The head of a request stays where it is when more bytes come.
use Rattle.std.proofs.Common.{◌≡◌, ◌≢◌, ℕ, zero, suc, ◌+◌, ◌-◌, ◌≤◌, ◌==◌, ◌&&◌, Bool, true, false, cond, List, [], ◌∷◌, ◌++◌, length, take, Some, None, refl, sym, ap, ◌∙◌, arith, take_all, length-append}
use Rattle.std.specs.Prelude.{Option, nat_le}
use Rattle.std.proofs.lemmas.Bool.{false≢true}
use Rattle.std.proofs.lemmas.Bool.Decides.{nat_tests}
use Rattle.std.proofs.lemmas.Option.{none-some, same_Some}
use Rattle.std.proofs.lemmas.List.{take-append-le, length-take}
use Rattle.web_requests.specs.declared.front.HeadPlace.{HeadPlace}
use Rattle.web_requests.specs.declared.front.HeadPlace.TheVariants as places
use Rattle.web_requests.specs.Front.{begins_blank, skip_blank, behind_blank, behind_head, place_from, head_place}

-- ---- empty lines

feed : (c : ℕ) (bytes : List ℕ) → c ≡ 10 → begins_blank (c ∷ bytes) ≡ true
feed c bytes e = rw e refl

no_feed : (c : ℕ) → c ≢ 10 → begins_blank (c ∷ []) ≡ false
no_feed c e = grind (arith, nat_tests)

never : (t : Bool) (x rest : List ℕ) → cond (t && false) (Some x) None ≡ Some rest → ⊥
never true x rest e = none-some rest e
never false x rest e = none-some rest e

-- one byte has no head behind it
lone : (b : ℕ) (rest : List ℕ) → behind_head (b ∷ []) ≡ Some rest → ⊥
unfolding behind_head
lone b rest e = never (b == 10) (behind_blank []) rest e

-- ---- the first line that isn't empty

choose : (r : Bool) (s t whole longer more rest : List ℕ) → (behind_head s ≡ Some rest → t ≡ s ++ more) → longer ≡ whole ++ more → behind_head (cond r s whole) ≡ Some rest → cond r t longer ≡ cond r s whole ++ more
choose true s t whole longer more rest f w e = f e
choose false s t whole longer more rest f w e = w

no_head : (r : Bool) (b : ℕ) (rest : List ℕ) → behind_head (cond r [] (b ∷ [])) ≡ Some rest → ⊥
unfolding behind_head
no_head true b rest e = none-some rest e
no_head false b rest e = lone b rest e

skipped : (bytes more rest : List ℕ) → behind_head (skip_blank bytes) ≡ Some rest → skip_blank (bytes ++ more) ≡ skip_blank bytes ++ more
unfolding skip_blank behind_head
skipped [] more rest e = absurd (none-some rest e)
skipped (b ∷ []) more rest e = absurd (no_head (begins_blank (b ∷ [])) b rest e)
skipped (b ∷ c ∷ bytes) more rest e = choose (begins_blank (b ∷ c ∷ bytes)) (skip_blank (c ∷ bytes)) (skip_blank (c ∷ bytes ++ more)) (b ∷ c ∷ bytes) (b ∷ c ∷ bytes ++ more) more rest (skipped (c ∷ bytes) more rest) refl e

-- ---- the end of the head

pick : (t u : Bool) (x y : List ℕ) (o p : Option (List ℕ)) (more rest : List ℕ) → u ≡ t → y ≡ x ++ more → (o ≡ Some rest → p ≡ Some (rest ++ more)) → cond t (Some x) o ≡ Some rest → cond u (Some y) p ≡ Some (rest ++ more)
pick true u x y o p more rest same longer f e = rw (same, longer, same_Some x rest e) refl
pick false u x y o p more rest same longer f e = rw same (f e)

either_way : (s : Bool) (p q more : List ℕ) → cond s (p ++ more) (q ++ more) ≡ cond s p q ++ more
either_way true p q more = refl
either_way false p q more = refl

not_there : (t s : Bool) (x : List ℕ) (o : Option (List ℕ)) (rest : List ℕ) → s ≡ false → cond (t && s) (Some x) o ≡ Some rest → o ≡ Some rest
not_there true true x o rest is e = absurd (false≢true (sym is))
not_there true false x o rest is e = e
not_there false s x o rest is e = e

found : (bytes more rest : List ℕ) → behind_head bytes ≡ Some rest → behind_head (bytes ++ more) ≡ Some (rest ++ more)
unfolding behind_head
found [] more rest e = absurd (none-some rest e)
found (b ∷ []) more rest e = absurd (lone b rest e)
found (b ∷ c ∷ []) more rest e = by (c == 10) refl
  where
    by : (s : Bool) → (c == 10) ≡ s → behind_head (b ∷ c ∷ more) ≡ Some (rest ++ more)
    by true is =
        let ten : c ≡ 10 = grind (arith, nat_tests) in
        pick (b == 10 && begins_blank (c ∷ [])) (b == 10 && begins_blank (c ∷ more)) (behind_blank (c ∷ [])) (behind_blank (c ∷ more)) (behind_head (c ∷ [])) (behind_head (c ∷ more)) more rest
        (ap (λ s. b == 10 && s) (feed c more ten ∙ sym (feed c [] ten))) (rw ten refl) (λ h. absurd (lone c rest h)) e
    by false is =
        absurd (lone c rest (not_there (b == 10) (begins_blank (c ∷ [])) (behind_blank (c ∷ [])) (behind_head (c ∷ [])) rest (no_feed c (grind (arith, nat_tests))) e))
found (b ∷ c ∷ d ∷ bytes) more rest e =
    pick (b == 10 && begins_blank (c ∷ d ∷ bytes)) (b == 10 && begins_blank (c ∷ d ∷ bytes ++ more)) (behind_blank (c ∷ d ∷ bytes)) (behind_blank (c ∷ d ∷ bytes ++ more)) (behind_head (c ∷ d ∷ bytes)) (behind_head (c ∷ d ∷ bytes ++ more)) more rest
    refl (either_way (c == 10) (d ∷ bytes) bytes more) (found (c ∷ d ∷ bytes) more rest) e

-- ---- its place

past : (n : ℕ) (bytes more : List ℕ) → length bytes ≤ n → take n (bytes ++ more) ≡ bytes ++ take (n - length bytes) more
past n [] more le = ap (λ k. take k more) (omega arith)
past zero (b ∷ bytes) more le = absurd (omega (arith, le))
past (suc n) (b ∷ bytes) more le =
    ap (λ l. b ∷ l) (past n bytes more (omega (arith, le)) ∙ ap (λ k. bytes ++ take k more) (omega arith))

-- a full window stays
full : (limit : ℕ) (bytes more : List ℕ) → limit ≤ length bytes → head_place limit (bytes ++ more) ≡ head_place limit bytes
unfolding head_place
full limit bytes more le =
    let now : nat_le limit (length bytes) ≡ true = grind (arith, nat_tests) in
    let later : nat_le limit (length (bytes ++ more)) ≡ true = rw length-append (grind (arith, nat_tests)) in
    rw (take-append-le limit bytes more le, now, later) refl

same_whole : (start end s e : ℕ) → ◌≡◌ {A = HeadPlace} (places.Whole start end) (places.Whole s e) → (start ≡ s) × (end ≡ e)
same_whole start end s e h = (grind (arith, h), grind (arith, h))

placed : (limit : ℕ) (bytes window lines : List ℕ) (behind : Option (List ℕ)) (limited : Bool) → take limit bytes ≡ window → skip_blank window ≡ lines → behind_head lines ≡ behind → nat_le limit (length bytes) ≡ limited
    → head_place limit bytes ≡ place_from (length window) (length lines) behind limited
unfolding head_place
placed limit bytes window lines behind limited a b c d = rw (a, b, c, d) refl

-- both counts grow alike
grown : (size left extra : ℕ) (rest later : List ℕ) (start end : ℕ) (limited : Bool) → length later ≡ length rest + extra
    → ◌≡◌ {A = HeadPlace} (places.Whole (size - left) (size - length rest)) (places.Whole start end)
    → place_from (size + extra) (left + extra) (Some later) limited ≡ places.Whole start end
grown size left extra rest later start end limited len e =
    let parts = same_whole (size - left) (size - length rest) start end e in
    let front : size + extra - (left + extra) ≡ start = omega (arith, parts.0) in
    let back : size + extra - length later ≡ end = omega (arith, parts.1, len) in
    rw (front, back) refl

-- a window that isn't full
module _ (limit : ℕ) (bytes more : List ℕ) (start end : ℕ) (short : length bytes ≤ limit) where
  extra : List ℕ
  extra = take (limit - length bytes) more

  not_whole : (limited : Bool) → place_from (length bytes) (length (skip_blank bytes)) None limited ≡ places.Whole start end → ⊥
  not_whole true e = grind (arith, e)
  not_whole false e = grind (arith, e)

  by : (behind : Option (List ℕ)) (limited : Bool) → behind_head (skip_blank bytes) ≡ behind → place_from (length bytes) (length (skip_blank bytes)) behind limited ≡ places.Whole start end → head_place limit (bytes ++ more) ≡ places.Whole start end
  unfolding extra
  by None limited is e = absurd (not_whole limited e)
  by (Some rest) limited is e =
      let lines = skip_blank bytes in
      let at = placed limit (bytes ++ more) (bytes ++ extra) (lines ++ extra) (Some (rest ++ extra)) (nat_le limit (length (bytes ++ more)))
      (past limit bytes more short) (skipped bytes extra rest is) (found lines extra rest is) refl in
      let sizes : length (bytes ++ extra) ≡ length bytes + length extra = length-append bytes extra in
      let lefts : length (lines ++ extra) ≡ length lines + length extra = length-append lines extra in
      at ∙ ap (λ n. place_from n (length (lines ++ extra)) (Some (rest ++ extra)) (nat_le limit (length (bytes ++ more)))) sizes
      ∙ ap (λ n. place_from (length bytes + length extra) n (Some (rest ++ extra)) (nat_le limit (length (bytes ++ more)))) lefts
      ∙ grown (length bytes) (length lines) (length extra) rest (rest ++ extra) start end (nat_le limit (length (bytes ++ more))) (length-append rest extra) e

  pub fewer : head_place limit bytes ≡ places.Whole start end → head_place limit (bytes ++ more) ≡ places.Whole start end
  fewer e =
      let at = placed limit bytes bytes (skip_blank bytes) (behind_head (skip_blank bytes)) (nat_le limit (length bytes)) (take_all limit bytes short) refl refl refl in
      by (behind_head (skip_blank bytes)) (nat_le limit (length bytes)) refl (sym at ∙ e)

-- a whole head stays
pub whole_stays : (limit : ℕ) (bytes more : List ℕ) (start end : ℕ) → head_place limit bytes ≡ places.Whole start end → head_place limit (bytes ++ more) ≡ places.Whole start end
whole_stays limit bytes more start end e = either (nat_le limit (length bytes)) refl
  where
    either : (r : Bool) → nat_le limit (length bytes) ≡ r → head_place limit (bytes ++ more) ≡ places.Whole start end
    either true is = full limit bytes more (grind (arith, nat_tests)) ∙ e
    either false is = fewer limit bytes more start end (grind (arith, nat_tests)) e

not_large : (size left : ℕ) (behind : Option (List ℕ)) → place_from size left behind false ≡ places.TooLarge → ⊥
not_large size left None e = grind (arith, e)
not_large size left (Some rest) e = grind (arith, e)

-- a head that is too large stays so
pub large_stays : (limit : ℕ) (bytes more : List ℕ) → head_place limit bytes ≡ places.TooLarge → head_place limit (bytes ++ more) ≡ places.TooLarge
unfolding head_place
large_stays limit bytes more e = either (nat_le limit (length bytes)) refl
  where
    either : (r : Bool) → nat_le limit (length bytes) ≡ r → head_place limit (bytes ++ more) ≡ places.TooLarge
    either true is = full limit bytes more (grind (arith, nat_tests)) ∙ e
    either false is = absurd (not_large (length (take limit bytes)) (length (skip_blank (take limit bytes))) (behind_head (skip_blank (take limit bytes))) (rw is at e))

-- a head lies in the bytes
inside : (size left most : ℕ) (behind : Option (List ℕ)) (limited : Bool) (start end : ℕ) → size ≤ most → place_from size left behind limited ≡ places.Whole start end → (start ≤ most) × (end ≤ most)
inside size left most (Some rest) limited start end le e = let parts = same_whole (size - left) (size - length rest) start end e in (omega (arith, parts.0, le), omega (arith, parts.1, le))
inside size left most None true start end le e = absurd (grind (arith, e))
inside size left most None false start end le e = absurd (grind (arith, e))

pub within : (limit : ℕ) (bytes : List ℕ) (start end : ℕ) → head_place limit bytes ≡ places.Whole start end → (start ≤ length bytes) × (end ≤ length bytes)
unfolding head_place
within limit bytes start end e =
    inside (length (take limit bytes)) (length (skip_blank (take limit bytes))) (length bytes) (behind_head (skip_blank (take limit bytes))) (nat_le limit (length bytes)) start end (omega (arith, length-take limit bytes)) e
