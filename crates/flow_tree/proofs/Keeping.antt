-- What a tree keeps, where no rule is broken.
use Rattle.std.proofs.Common.{◌≡◌, ℕ, Bool, true, false, not, ◌&&◌, ◌||◌, cond, List, [], ◌∷◌, ◌++◌, Some, None, refl, ap, sym, ◌∙◌, arith, append_assoc}
use Rattle.std.specs.Prelude.{nat_le, nat_lt}
use Rattle.std.specs.List.{list_any, list_all}
use Rattle.std.specs.Str.{bytes_eq}
use Rattle.std.proofs.lemmas.Bool.Decides.{nat_tests}
use Rattle.flow_tree.specs.declared.exec.Exec.{Exec}
use Rattle.flow_tree.specs.declared.exec.Cond.TheVariants as cond
use Rattle.flow_tree.specs.declared.fault.TreeRule.{TreeRule}
use Rattle.flow_tree.specs.declared.fault.TreeRule.TheVariants.{DoubleId, ConditionalLeaf, TooDeep, TooMany, DoubleLevel, CondRequirement}
use Rattle.flow_tree.specs.Faults.{breaks, first_breaking, broken, fault_among, fault_of, repeats_level, is_of_level}
use Rattle.flow_tree.specs.Places.{Place, Shape, Leaf, Test, Flow, places}
use Rattle.flow_tree.specs.Words.{are_apart, have_own_levels}
use Rattle.flow_tree.proofs.Breaking.{first_step}
use Rattle.flow_tree.proofs.Earlier.{any_append}
use Rattle.flow_tree.proofs.Ruling.{none_first, none_second, unnamed}

none_here : (rule : TreeRule) (b ps : List Place) (p : Place) (t : Bool) → breaks rule b p ≡ t → cond t (Some p.id) (first_breaking rule (b ++ p ∷ []) ps) ≡ None → (breaks rule b p ≡ false) × (first_breaking rule (b ++ p ∷ []) ps ≡ None)
none_here rule b ps p true is h = absurd cc
none_here rule b ps p false is h = (is, h)

-- neither the first breaks the rule, nor one after it
none_next : (rule : TreeRule) (b ps : List Place) (p : Place) → first_breaking rule b (p ∷ ps) ≡ None → (breaks rule b p ≡ false) × (first_breaking rule (b ++ p ∷ []) ps ≡ None)
none_next rule b ps p h = none_here rule b ps p _ refl (sym (first_step rule b p ps) ∙ h)

pub none_deep : (b ps : List Place) → first_breaking TooDeep b ps ≡ None → list_all (λ (p : Place). nat_le p.depth 8) ps ≡ true
none_deep b [] h = refl
none_deep b (p ∷ ps) h =
    let next = none_next TooDeep b ps p h in
    let here : nat_le p.depth 8 ≡ true = shallow p.depth next.0 in
    ap (λ x. x && list_all (λ (q : Place). nat_le q.depth 8) ps) here ∙ none_deep (b ++ p ∷ []) ps next.1
  where
    shallow : (d : ℕ) → nat_lt 8 d ≡ false → nat_le d 8 ≡ true
    shallow d h = grind (arith, nat_tests)

or_left : (a b : Bool) → (a || b) ≡ false → a ≡ false
or_left true b h = absurd cc
or_left false b h = refl

or_right : (a b : Bool) → (a || b) ≡ false → b ≡ false
or_right true b h = absurd cc
or_right false b h = h

-- what stands between others fails a test that none of them passes
between : (p : Place → Bool) (front back : List Place) (x : Place) → list_any p (front ++ x ∷ back) ≡ false → p x ≡ false
between p front back x h = or_left (p x) (list_any p back) (or_right (list_any p front) (list_any p (x ∷ back)) (sym (any_append p front (x ∷ back)) ∙ h))

-- none of these has the id of one that stands before them
other_ids : (front back ps : List Place) (x : Place) → first_breaking DoubleId (front ++ x ∷ back) ps ≡ None → list_any (λ (q : Place). bytes_eq x.id q.id) ps ≡ false
other_ids front back [] x h = refl
other_ids front back (p ∷ ps) x h =
    let next = none_next DoubleId (front ++ x ∷ back) ps p h in
    let here = between (λ (q : Place). bytes_eq q.id p.id) front back x next.0 in
    let rest = ap (λ b. first_breaking DoubleId b ps) (sym (append_assoc front (x ∷ back) (p ∷ []))) ∙ next.1 in
    ap (λ b. b || list_any (λ (q : Place). bytes_eq x.id q.id) ps) here ∙ other_ids front (back ++ p ∷ []) ps x rest

pub none_double : (b ps : List Place) → first_breaking DoubleId b ps ≡ None → are_apart ps ≡ true
none_double b [] h = refl
none_double b (p ∷ ps) h =
    let next = none_next DoubleId b ps p h in
    ap (λ x. not x && are_apart ps) (other_ids b [] ps p next.1) ∙ none_double (b ++ p ∷ []) ps next.1

-- a level that is not among them is not in one of them
one_level : (front back : List Place) (x : Place) (s : Shape) → repeats_level (front ++ x ∷ back) s ≡ false → repeats_level (x ∷ []) s ≡ false
one_level front back x (Leaf kind) h = refl
one_level front back x (Test (cond.Role role negate)) h = refl
one_level front back x (Test cond.Configured) h = refl
one_level front back x (Test (cond.Level level age)) h = ap (λ b. b || false) (between (λ (q : Place). is_of_level level q.shape) front back x h)
one_level front back x Flow h = refl

other_levels : (front back ps : List Place) (x : Place) → first_breaking DoubleLevel (front ++ x ∷ back) ps ≡ None → list_any (λ (q : Place). repeats_level (x ∷ []) q.shape) ps ≡ false
other_levels front back [] x h = refl
other_levels front back (p ∷ ps) x h =
    let next = none_next DoubleLevel (front ++ x ∷ back) ps p h in
    let rest = ap (λ b. first_breaking DoubleLevel b ps) (sym (append_assoc front (x ∷ back) (p ∷ []))) ∙ next.1 in
    ap (λ b. b || list_any (λ (q : Place). repeats_level (x ∷ []) q.shape) ps) (one_level front back x p.shape next.0) ∙ other_levels front (back ++ p ∷ []) ps x rest

pub none_level : (b ps : List Place) → first_breaking DoubleLevel b ps ≡ None → have_own_levels ps ≡ true
none_level b [] h = refl
none_level b (p ∷ ps) h =
    let next = none_next DoubleLevel b ps p h in
    ap (λ x. not x && have_own_levels ps) (other_levels b [] ps p next.1) ∙ none_level (b ++ p ∷ []) ps next.1

-- ---- no rule is broken

pub not_double : (es : List Exec) → fault_of es ≡ None → first_breaking DoubleId [] (places es) ≡ None
unfolding fault_of
not_double es none = unnamed (first_breaking DoubleId [] (places es)) DoubleId (none_first (broken DoubleId es) (fault_among (ConditionalLeaf ∷ TooDeep ∷ TooMany ∷ DoubleLevel ∷ CondRequirement ∷ []) es) none)

after_leaf : (es : List Exec) → fault_of es ≡ None → fault_among (TooDeep ∷ TooMany ∷ DoubleLevel ∷ CondRequirement ∷ []) es ≡ None
unfolding fault_of
after_leaf es none = none_second (broken ConditionalLeaf es) (fault_among (TooDeep ∷ TooMany ∷ DoubleLevel ∷ CondRequirement ∷ []) es) (none_second (broken DoubleId es) (fault_among (ConditionalLeaf ∷ TooDeep ∷ TooMany ∷ DoubleLevel ∷ CondRequirement ∷ []) es) none)

pub not_deep : (es : List Exec) → fault_of es ≡ None → first_breaking TooDeep [] (places es) ≡ None
not_deep es none = unnamed (first_breaking TooDeep [] (places es)) TooDeep (none_first (broken TooDeep es) (fault_among (TooMany ∷ DoubleLevel ∷ CondRequirement ∷ []) es) (after_leaf es none))

pub not_levels : (es : List Exec) → fault_of es ≡ None → first_breaking DoubleLevel [] (places es) ≡ None
not_levels es none =
    let fourth = none_second (broken TooDeep es) (fault_among (TooMany ∷ DoubleLevel ∷ CondRequirement ∷ []) es) (after_leaf es none) in
    let fifth = none_second (broken TooMany es) (fault_among (DoubleLevel ∷ CondRequirement ∷ []) es) fourth in
    unnamed (first_breaking DoubleLevel [] (places es)) DoubleLevel (none_first (broken DoubleLevel es) (fault_among (CondRequirement ∷ []) es) fifth)
