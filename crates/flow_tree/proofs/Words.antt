-- Laws of flows, in the words of the guide.
use Rattle.std.proofs.Common.{◌≡◌, ℕ, Bool, true, false, not, ◌&&◌, ◌||◌, cond, List, [], ◌∷◌, ◌++◌, map, refl, ap, sym, ◌∙◌}
use Rattle.std.specs.List.{list_any, list_all}
use Rattle.flow_tree.specs.declared.exec.Exec.{Exec}
use Rattle.flow_tree.specs.declared.exec.Requirement.{Requirement}
use Rattle.flow_tree.specs.declared.exec.Requirement.TheVariants.{Required, Alternative, Conditional, Disabled}
use Rattle.flow_tree.specs.declared.exec.Body.{Body, out-Body}
use Rattle.flow_tree.specs.declared.exec.Body.TheVariants.{Sub}
use Rattle.flow_tree.specs.declared.exec.Body.TheOpen.{Body-F}
use Rattle.flow_tree.specs.declared.verdict.Verdict.{Verdict}
use Rattle.flow_tree.specs.Faults.{is_condition}
use Rattle.flow_tree.specs.Flow.{has, is_required, is_alternative, is_conditional, judge, judged, Judged, acts, holds, judgements, verdicts, holds_over, opens_over, some_acts, first_needs, offered_needs, flow_holds, flow_needs}
use Rattle.flow_tree.specs.Places.{shape_in, shape_of}
use Rattle.flow_tree.specs.Words.{is_enabled_condition, is_offered}
use Rattle.flow_tree.proofs.Judging.{judging_at, judged_body, judged_flow, same_verdicts}
use Rattle.flow_tree.proofs.Reaching.{any_map}

-- ---- verdicts, by requirement and shape

verdict_is : (t : List (List ℕ)) (e : Exec) → (judged t e).verdict ≡ (judge t e.id e.requirement (judging_at t (out-Body e.body))).verdict
verdict_is t e = ap (λ (j : Judged). j.verdict) (judged_body t e e.body (out-Body e.body) refl refl)

abbrev at : List (List ℕ) → List ℕ → Requirement → Body-F Body Exec → Verdict
at t id r x = (judge t id r (judging_at t x)).verdict

required_at : (t : List (List ℕ)) (id : List ℕ) (x : Body-F Body Exec) → (at t id Required x).acts ≡ not (is_condition (shape_in x))
required_at t id (Body-F.Auth k) = refl
required_at t id (Body-F.Cond c) = refl
required_at t id (Body-F.Sub es) = refl

alternative_at : (t : List (List ℕ)) (id : List ℕ) (x : Body-F Body Exec) → (at t id Alternative x).acts ≡ false
alternative_at t id (Body-F.Auth k) = refl
alternative_at t id (Body-F.Cond c) = refl
alternative_at t id (Body-F.Sub es) = refl

disabled_at : (t : List (List ℕ)) (id : List ℕ) (x : Body-F Body Exec) → (at t id Disabled x).acts ≡ false
disabled_at t id (Body-F.Auth k) = refl
disabled_at t id (Body-F.Cond c) = refl
disabled_at t id (Body-F.Sub es) = refl

no_offer_at : (t : List (List ℕ)) (id : List ℕ) (x : Body-F Body Exec) → (at t id Disabled x).offers ≡ false
no_offer_at t id (Body-F.Auth k) = refl
no_offer_at t id (Body-F.Cond c) = refl
no_offer_at t id (Body-F.Sub es) = refl

and_true : (b : Bool) → (b && true) ≡ b
and_true true = refl
and_true false = refl

and_false : (b : Bool) → (b && false) ≡ false
and_false true = refl
and_false false = refl

offers_at : (t : List (List ℕ)) (id : List ℕ) (r : Requirement) (x : Body-F Body Exec) → (at t id r x).offers ≡ (is_alternative r && not (is_condition (shape_in x)))
offers_at t id r (Body-F.Auth k) = sym (and_true (is_alternative r))
offers_at t id r (Body-F.Cond c) = sym (and_false (is_alternative r))
offers_at t id r (Body-F.Sub es) = sym (and_true (is_alternative r))

condition_at : (t : List (List ℕ)) (id : List ℕ) (r : Requirement) (x : Body-F Body Exec) → is_condition (shape_in x) ≡ true → ((at t id r x).acts ≡ false) × ((at t id r x).offers ≡ false)
condition_at t id r (Body-F.Auth k) h = absurd cc
condition_at t id r (Body-F.Cond c) h = (refl, refl)
condition_at t id r (Body-F.Sub es) h = absurd cc

opens_at : (t : List (List ℕ)) (id : List ℕ) (r : Requirement) (x : Body-F Body Exec) → (at t id r x).opens ≡ ((is_condition (shape_in x) && is_required r) && has t id)
opens_at t id r (Body-F.Auth k) = refl
opens_at t id r (Body-F.Cond c) = refl
opens_at t id r (Body-F.Sub es) = refl

blocks_at : (t : List (List ℕ)) (id : List ℕ) (r : Requirement) (x : Body-F Body Exec) → (at t id r x).blocks ≡ ((is_condition (shape_in x) && is_required r) && not (has t id))
blocks_at t id r (Body-F.Auth k) = refl
blocks_at t id r (Body-F.Cond c) = refl
blocks_at t id r (Body-F.Sub es) = refl

pub required_acts : (t : List (List ℕ)) (e : Exec) → e.requirement ≡ Required → acts t e ≡ not (is_condition (shape_of e))
required_acts t e is = ap (λ (v : Verdict). v.acts) (verdict_is t e) ∙ ap (λ r. (at t e.id r (out-Body e.body)).acts) is ∙ required_at t e.id (out-Body e.body)

pub alternative_rests : (t : List (List ℕ)) (e : Exec) → e.requirement ≡ Alternative → acts t e ≡ false
alternative_rests t e is = ap (λ (v : Verdict). v.acts) (verdict_is t e) ∙ ap (λ r. (at t e.id r (out-Body e.body)).acts) is ∙ alternative_at t e.id (out-Body e.body)

pub disabled_rests : (t : List (List ℕ)) (e : Exec) → e.requirement ≡ Disabled → acts t e ≡ false
disabled_rests t e is = ap (λ (v : Verdict). v.acts) (verdict_is t e) ∙ ap (λ r. (at t e.id r (out-Body e.body)).acts) is ∙ disabled_at t e.id (out-Body e.body)

disabled_offers : (t : List (List ℕ)) (e : Exec) → e.requirement ≡ Disabled → (judged t e).verdict.offers ≡ false
disabled_offers t e is = ap (λ (v : Verdict). v.offers) (verdict_is t e) ∙ ap (λ r. (at t e.id r (out-Body e.body)).offers) is ∙ no_offer_at t e.id (out-Body e.body)

condition_rests : (t : List (List ℕ)) (e : Exec) → is_condition (shape_of e) ≡ true → acts t e ≡ false
condition_rests t e is = ap (λ (v : Verdict). v.acts) (verdict_is t e) ∙ (condition_at t e.id e.requirement (out-Body e.body) is).0

condition_offers : (t : List (List ℕ)) (e : Exec) → is_condition (shape_of e) ≡ true → (judged t e).verdict.offers ≡ false
condition_offers t e is = ap (λ (v : Verdict). v.offers) (verdict_is t e) ∙ (condition_at t e.id e.requirement (out-Body e.body) is).1

offers_is : (t : List (List ℕ)) (e : Exec) → (judged t e).verdict.offers ≡ is_offered e
offers_is t e = ap (λ (v : Verdict). v.offers) (verdict_is t e) ∙ offers_at t e.id e.requirement (out-Body e.body)

opens_is : (t : List (List ℕ)) (e : Exec) → (judged t e).verdict.opens ≡ (is_enabled_condition e && has t e.id)
opens_is t e = ap (λ (v : Verdict). v.opens) (verdict_is t e) ∙ opens_at t e.id e.requirement (out-Body e.body)

blocks_is : (t : List (List ℕ)) (e : Exec) → (judged t e).verdict.blocks ≡ (is_enabled_condition e && not (has t e.id))
blocks_is t e = ap (λ (v : Verdict). v.blocks) (verdict_is t e) ∙ blocks_at t e.id e.requirement (out-Body e.body)

-- ---- lists

any_same : {X : Type 0} (p q : X → Bool) (xs : List X) → ((x : X) → p x ≡ q x) → list_any p xs ≡ list_any q xs
any_same p q [] h = refl
any_same p q (x ∷ xs) h = ap (λ b. b || list_any p xs) (h x) ∙ ap (λ b. q x || b) (any_same p q xs h)

all_map : {X Y : Type 0} (p : Y → Bool) (f : X → Y) (xs : List X) → list_all p (map f xs) ≡ list_all (λ x. p (f x)) xs
all_map p f [] = refl
all_map p f (x ∷ xs) = ap (λ b. p (f x) && b) (all_map p f xs)

any_mid : {X : Type 0} (p : X → Bool) (xs ys : List X) (x : X) → p x ≡ false → list_any p (xs ++ x ∷ ys) ≡ list_any p (xs ++ ys)
any_mid p [] ys x fails = ap (λ b. b || list_any p ys) fails
any_mid p (z ∷ zs) ys x fails = ap (λ b. p z || b) (any_mid p zs ys x fails)

all_mid : {X : Type 0} (p : X → Bool) (xs ys : List X) (x : X) → p x ≡ true → list_all p (xs ++ x ∷ ys) ≡ list_all p (xs ++ ys)
all_mid p [] ys x so = ap (λ b. b && list_all p ys) so
all_mid p (z ∷ zs) ys x so = ap (λ b. p z && b) (all_mid p zs ys x so)

-- no enabled one is false, and so each is true
none_blocks : {X : Type 0} (p q : X → Bool) (xs : List X) → not (list_any (λ x. p x && not (q x)) xs) ≡ list_all (λ x. not (p x) || q x) xs
none_blocks p q [] = refl
none_blocks p q (x ∷ xs) = one (p x) (q x) (list_any (λ x. p x && not (q x)) xs) ∙ ap (λ b. (not (p x) || q x) && b) (none_blocks p q xs)
  where
    one : (a b c : Bool) → not ((a && not b) || c) ≡ ((not a || b) && not c)
    one true true c = refl
    one true false c = refl
    one false b c = refl

-- where each enabled one is true, one that is enabled and true is one that is enabled
some_opens : {X : Type 0} (p q : X → Bool) (xs : List X) → (list_any (λ x. p x && q x) xs && list_all (λ x. not (p x) || q x) xs) ≡ (list_any p xs && list_all (λ x. not (p x) || q x) xs)
some_opens p q [] = refl
some_opens p q (x ∷ xs) = one (p x) (q x) (list_any (λ x. p x && q x) xs) (list_any p xs) (list_all (λ x. not (p x) || q x) xs) (some_opens p q xs)
  where
    one : (a b c d r : Bool) → (c && r) ≡ (d && r) → (((a && b) || c) && ((not a || b) && r)) ≡ ((a || d) && ((not a || b) && r))
    one true true c d r h = refl
    one true false c d r h = and_false c
    one false b c d r h = h

-- ---- flows

flow_by : (t : List (List ℕ)) (es : List Exec) → flow_holds t es ≡ cond (list_any (acts t) es) (list_all (λ (e : Exec). not (acts t e) || holds t e) es) (list_any (λ (e : Exec). (judged t e).verdict.offers && holds t e) es)
flow_by t es =
    let v = λ (e : Exec). (judged t e).verdict in
    ap (λ b. cond b (list_all (λ (w : Verdict). not w.acts || w.holds) (map v es)) (list_any (λ (w : Verdict). w.offers && w.holds) (map v es))) (any_map (λ (w : Verdict). w.acts) v es)
    ∙ ap (λ b. cond (list_any (acts t) es) b (list_any (λ (w : Verdict). w.offers && w.holds) (map v es))) (all_map (λ (w : Verdict). not w.acts || w.holds) v es)
    ∙ ap (cond (list_any (acts t) es) (list_all (λ (e : Exec). not (acts t e) || holds t e) es)) (any_map (λ (w : Verdict). w.offers && w.holds) v es)

pub flow_acting : (t : List (List ℕ)) (es : List Exec) → list_any (acts t) es ≡ true → flow_holds t es ≡ list_all (λ (e : Exec). not (acts t e) || holds t e) es
flow_acting t es some = flow_by t es ∙ ap (λ b. cond b (list_all (λ (e : Exec). not (acts t e) || holds t e) es) (list_any (λ (e : Exec). (judged t e).verdict.offers && holds t e) es)) some

pub flow_offered : (t : List (List ℕ)) (es : List Exec) → list_any (acts t) es ≡ false → flow_holds t es ≡ list_any (λ (e : Exec). is_offered e && holds t e) es
flow_offered t es none =
    flow_by t es ∙ ap (λ b. cond b (list_all (λ (e : Exec). not (acts t e) || holds t e) es) (list_any (λ (e : Exec). (judged t e).verdict.offers && holds t e) es)) none
    ∙ any_same (λ (e : Exec). (judged t e).verdict.offers && holds t e) (λ (e : Exec). is_offered e && holds t e) es (λ e. ap (λ b. b && holds t e) (offers_is t e))

flow_without : (t : List (List ℕ)) (front back : List Exec) (e : Exec) → acts t e ≡ false → list_any (λ (x : Exec). (judged t x).verdict.offers && holds t x) (front ++ e ∷ back) ≡ list_any (λ (x : Exec). (judged t x).verdict.offers && holds t x) (front ++ back) → flow_holds t (front ++ e ∷ back) ≡ flow_holds t (front ++ back)
flow_without t front back e rests same =
    let each = λ (x : Exec). not (acts t x) || holds t x in
    let offers = λ (x : Exec). (judged t x).verdict.offers && holds t x in
    flow_by t (front ++ e ∷ back)
    ∙ ap (λ b. cond b (list_all each (front ++ e ∷ back)) (list_any offers (front ++ e ∷ back))) (any_mid (acts t) front back e rests)
    ∙ ap (λ b. cond (list_any (acts t) (front ++ back)) b (list_any offers (front ++ e ∷ back))) (all_mid each front back e (ap (λ b. not b || holds t e) rests))
    ∙ ap (cond (list_any (acts t) (front ++ back)) (list_all each (front ++ back))) same
    ∙ sym (flow_by t (front ++ back))

pub disabled_idle : (t : List (List ℕ)) (front back : List Exec) (e : Exec) → e.requirement ≡ Disabled → flow_holds t (front ++ e ∷ back) ≡ flow_holds t (front ++ back)
disabled_idle t front back e is = flow_without t front back e (disabled_rests t e is) (any_mid (λ (x : Exec). (judged t x).verdict.offers && holds t x) front back e (ap (λ b. b && holds t e) (disabled_offers t e is)))

pub condition_idle : (t : List (List ℕ)) (front back : List Exec) (e : Exec) → is_condition (shape_of e) ≡ true → flow_holds t (front ++ e ∷ back) ≡ flow_holds t (front ++ back)
condition_idle t front back e is = flow_without t front back e (condition_rests t e is) (any_mid (λ (x : Exec). (judged t x).verdict.offers && holds t x) front back e (ap (λ b. b && holds t e) (condition_offers t e is)))

pub alternative_idle : (t : List (List ℕ)) (front back : List Exec) (e : Exec) → e.requirement ≡ Alternative → list_any (acts t) (front ++ back) ≡ true → flow_holds t (front ++ e ∷ back) ≡ flow_holds t (front ++ back)
alternative_idle t front back e is some =
    let each = λ (x : Exec). not (acts t x) || holds t x in
    let rests = alternative_rests t e is in
    flow_acting t (front ++ e ∷ back) (any_mid (acts t) front back e rests ∙ some)
    ∙ all_mid each front back e (ap (λ b. not b || holds t e) rests)
    ∙ sym (flow_acting t (front ++ back) some)

pub conditional_acts : (t : List (List ℕ)) (e : Exec) (es : List Exec) → e.requirement ≡ Conditional → e.body ≡ Sub es → acts t e ≡ (list_any is_enabled_condition es && list_all (λ (c : Exec). not (is_enabled_condition c) || has t c.id) es)
conditional_acts t e es is body =
    let here = λ (c : Exec). has t c.id in
    ap (λ (j : Judged). j.verdict.acts) (judged_flow t e es body)
    ∙ ap (λ r. is_required r || (is_conditional r && opens_over (verdicts (map (judged t) es)))) is
    ∙ ap opens_over (same_verdicts t es)
    ∙ ap (λ b. b && not (list_any (λ (v : Verdict). v.blocks) (judgements t es))) (any_map (λ (v : Verdict). v.opens) (λ (c : Exec). (judged t c).verdict) es ∙ any_same (λ (c : Exec). (judged t c).verdict.opens) (λ (c : Exec). is_enabled_condition c && here c) es (opens_is t))
    ∙ ap (λ b. list_any (λ (c : Exec). is_enabled_condition c && here c) es && not b) (any_map (λ (v : Verdict). v.blocks) (λ (c : Exec). (judged t c).verdict) es ∙ any_same (λ (c : Exec). (judged t c).verdict.blocks) (λ (c : Exec). is_enabled_condition c && not (here c)) es (blocks_is t))
    ∙ ap (λ b. list_any (λ (c : Exec). is_enabled_condition c && here c) es && b) (none_blocks is_enabled_condition here es)
    ∙ some_opens is_enabled_condition here es

pub flow_needs_nothing : (t : List (List ℕ)) (es : List Exec) → flow_holds t es ≡ true → flow_needs t es ≡ []
flow_needs_nothing t es so = ap (λ b. cond b [] (cond (some_acts (verdicts (map (judged t) es))) (first_needs (map (judged t) es)) (offered_needs (map (judged t) es)))) (ap holds_over (same_verdicts t es) ∙ so)
