-- The first broken rule, and what no broken rule says.
use Rattle.std.proofs.Common.{◌≡◌, ℕ, ◌+◌, ◌<◌, ◌≤◌, Bool, true, false, cond, List, [], ◌∷◌, ◌++◌, length, get_or, drop, Option, Some, None, refl, ap, sym, ◌∙◌, arith, length-append}
use Rattle.std.specs.Prelude.{is_some, nat_le, option_map, MatchOption}
use Rattle.std.specs.Option.{option_or}
use Rattle.std.proofs.Math.ListN.{drop_of_length-le}
use Rattle.std.proofs.lemmas.List.{drop_more}
use Rattle.std.proofs.lemmas.Bool.Decides.{nat_tests}
use Rattle.flow_tree.specs.declared.exec.Exec.{Exec}
use Rattle.flow_tree.specs.declared.before.Before.{Nothing}
use Rattle.flow_tree.specs.declared.fault.TreeRule.{TreeRule}
use Rattle.flow_tree.specs.declared.fault.TreeRule.TheVariants.{DoubleId, ConditionalLeaf, TooDeep, TooMany, DoubleLevel, CondRequirement}
use Rattle.flow_tree.specs.declared.fault.TreeFault.{TreeFault}
use Rattle.flow_tree.specs.Faults.{first_breaking, broken, fault_among, fault_of}
use Rattle.flow_tree.specs.Places.{Place, places, places_at}
use Rattle.flow_tree.specs.Standing.{depth_of, before_of, IsFirstBroken}
use Rattle.flow_tree.proofs.Breaking.{found_same, first_step}

abbrev faulty : TreeRule → List ℕ → TreeFault
faulty rule id = record { rule = rule; id = id }

-- nothing stands before a whole tree
pub whole : (rule : TreeRule) (es : List Exec) → first_breaking rule (before_of Nothing) (places_at (depth_of Nothing) es) ≡ first_breaking rule [] (places es)
unfolding before_of depth_of
whole rule es = refl

pub rule_broken : (rule : TreeRule) (es : List Exec) (o : Option ℕ) → MatchOption o (first_breaking rule (before_of Nothing) (places_at (depth_of Nothing) es) ≡ None) (λ i. IsFirstBroken rule Nothing es i) → is_some o ≡ is_some (first_breaking rule [] (places es))
rule_broken rule es o h = found_same rule Nothing es o h ∙ ap is_some (whole rule es)

named_first : (o : Option (List ℕ)) (rule : TreeRule) (p : Option TreeFault) → is_some o ≡ true → option_or (option_map (faulty rule) o) p ≡ option_map (faulty rule) o
named_first None rule p h = absurd cc
named_first (Some id) rule p h = refl

named_later : (o : Option (List ℕ)) (rule : TreeRule) (p : Option TreeFault) → is_some o ≡ false → option_or (option_map (faulty rule) o) p ≡ p
named_later None rule p h = refl
named_later (Some id) rule p h = absurd cc

abbrev pub rule_at : List TreeRule → ℕ → TreeRule
rule_at rules i = get_or rules i DoubleId

next_rule : (rules : List TreeRule) (i : ℕ) (es : List Exec) → i < length rules → fault_among (drop i rules) es ≡ option_or (broken (rule_at rules i) es) (fault_among (drop (i + 1) rules) es)
next_rule rules i es lt = ap (λ rs. fault_among rs es) (drop_more rules i DoubleId lt)

pub rule_first : (rules : List TreeRule) (i : ℕ) (es : List Exec) → i < length rules → is_some (first_breaking (rule_at rules i) [] (places es)) ≡ true → fault_among (drop i rules) es ≡ broken (rule_at rules i) es
rule_first rules i es lt here = next_rule rules i es lt ∙ named_first (first_breaking (rule_at rules i) [] (places es)) (rule_at rules i) _ here

pub rule_later : (rules : List TreeRule) (i : ℕ) (es : List Exec) → i < length rules → is_some (first_breaking (rule_at rules i) [] (places es)) ≡ false → fault_among (drop i rules) es ≡ fault_among (drop (i + 1) rules) es
rule_later rules i es lt not_here = next_rule rules i es lt ∙ named_later (first_breaking (rule_at rules i) [] (places es)) (rule_at rules i) _ not_here

pub rules_over : (rules : List TreeRule) (i : ℕ) (es : List Exec) → length rules ≤ i → fault_among (drop i rules) es ≡ None
rules_over rules i es le = ap (λ rs. fault_among rs es) (drop_of_length-le rules le)

-- the fault of a rule that is broken
pub fault_named : (rule : TreeRule) (es : List Exec) (id : List ℕ) → Some id ≡ first_breaking rule [] (places es) → broken rule es ≡ Some (faulty rule id)
fault_named rule es id is = ap (option_map (faulty rule)) (sym is)

-- ---- what a tree keeps

pub none_first : {X : Type 0} (o p : Option X) → option_or o p ≡ None → o ≡ None
none_first None p h = refl
none_first (Some x) p h = absurd cc

pub none_second : {X : Type 0} (o p : Option X) → option_or o p ≡ None → p ≡ None
none_second None p h = h
none_second (Some x) p h = absurd cc

pub unnamed : (o : Option (List ℕ)) (rule : TreeRule) → option_map (faulty rule) o ≡ None → o ≡ None
unnamed None rule h = refl
unnamed (Some id) rule h = absurd cc

not_too_many : (b ps : List Place) (p : Place) (t : Bool) → nat_le 64 (length b) ≡ t → cond t (Some p.id) (first_breaking TooMany (b ++ p ∷ []) ps) ≡ None → (length b < 64) × (first_breaking TooMany (b ++ p ∷ []) ps ≡ None)
not_too_many b ps p true is h = absurd cc
not_too_many b ps p false is h = (grind (arith, nat_tests), h)

none_too_many : (b ps : List Place) → first_breaking TooMany b ps ≡ None → length b ≤ 64 → length b + length ps ≤ 64
none_too_many b [] h le = omega (arith, le)
none_too_many b (p ∷ ps) h le =
    let here = not_too_many b ps p _ refl (sym (first_step TooMany b p ps) ∙ h) in
    let more = length-append b (p ∷ []) in
    omega (arith, more, none_too_many (b ++ p ∷ []) ps here.1 (omega (arith, more, here.0)))

pub few_places : (es : List Exec) → fault_of es ≡ None → length (places es) ≤ 64
unfolding fault_of
few_places es none =
    let second = none_second (broken DoubleId es) (fault_among (ConditionalLeaf ∷ TooDeep ∷ TooMany ∷ DoubleLevel ∷ CondRequirement ∷ []) es) none in
    let third = none_second (broken ConditionalLeaf es) (fault_among (TooDeep ∷ TooMany ∷ DoubleLevel ∷ CondRequirement ∷ []) es) second in
    let fourth = none_second (broken TooDeep es) (fault_among (TooMany ∷ DoubleLevel ∷ CondRequirement ∷ []) es) third in
    let many = none_first (broken TooMany es) (fault_among (DoubleLevel ∷ CondRequirement ∷ []) es) fourth in
    let few = none_too_many [] (places es) (unnamed (first_breaking TooMany [] (places es)) TooMany many) (omega arith) in
    omega (arith, few)
