-- The places of the facts about accounts.
use Rattle.std.proofs.Common.{◌≡◌, ℕ, zero, suc, ◌+◌, ◌<◌, Bool, true, false, List, [], ◌∷◌, ◌++◌, Some, length, take, get_or, slice_get, refl, ap, sym, ◌∙◌, subst, arith}
use Rattle.std.specs.Prelude.{if◌then◌else◌}
use Rattle.std.proofs.lemmas.List.{append-nil, take_more, length-take-le}
use Rattle.std.proofs.lemmas.Option.{get_or_from_slice_get, slice_get_within, slice_get-get_or, same_Some}
use Rattle.facts.specs.declared.fact.Fact.{Fact}
use Rattle.facts.specs.Accounts.{account_facts}
use Rattle.facts.specs.Kept.{account_places, AreAccounts}
use Rattle.facts.specs.Subjects.{subject_of, is_account}

pub none : (before : ℕ) → account_places before [] ≡ []
unfolding account_places
none before = refl

-- ---- more facts behind others

split : (b : Bool) (n : ℕ) (x y z : List ℕ) → x ≡ y ++ z → (if b then n ∷ x else x) ≡ (if b then n ∷ y else y) ++ z
split true n x y z h = ap (λ (r : List ℕ). n ∷ r) h
split false n x y z h = h

places_append : (n : ℕ) (facts more : List Fact) → account_places n (facts ++ more) ≡ account_places n facts ++ account_places (n + length facts) more
unfolding account_places
places_append n [] more = ap (λ (m : ℕ). account_places m more) (omega arith)
places_append n (fact ∷ facts) more =
    let e : n + 1 + length facts ≡ n + suc (length facts) = omega arith in
    split (is_account (subject_of fact)) n (account_places (n + 1) (facts ++ more)) (account_places (n + 1) facts) (account_places (n + suc (length facts)) more)
    (places_append (n + 1) facts more ∙ ap (λ (m : ℕ). account_places (n + 1) facts ++ account_places m more) e)

from_zero : (n : ℕ) (facts : List Fact) → account_places n facts ≡ account_places (0 + n) facts
from_zero n facts = ap (λ (m : ℕ). account_places m facts) (omega arith)

-- the places in joined lists
pub joined : (places more : List ℕ) (facts new : List Fact) → AreAccounts places facts → more ≡ account_places (length facts) new → AreAccounts (places ++ more) (facts ++ new)
joined places more facts new h k =
    ap (λ (p : List ℕ). p ++ more) h ∙ ap (λ (p : List ℕ). account_places 0 facts ++ p) (k ∙ from_zero (length facts) new) ∙ sym (places_append 0 facts new)

one_place : (n : ℕ) (fact : Fact) → account_places n (fact ∷ []) ≡ (if is_account (subject_of fact) then n ∷ [] else [])
unfolding account_places
one_place n fact = refl

-- one more fact
one_more : (before : ℕ) (facts : List Fact) (i : ℕ) (fact : Fact) (is : Bool) → slice_get facts i ≡ Some fact → is_account (subject_of fact) ≡ is
    → account_places before (take (i + 1) facts) ≡ account_places before (take i facts) ++ (if is then (before + i) ∷ [] else [])
one_more before facts i fact is h e =
    let within = slice_get_within facts i fact h in
    let taken = take_more facts i fact within ∙ ap (λ x. take i facts ++ x ∷ []) (get_or_from_slice_get facts i fact fact h) in
    let long : length (take i facts) ≡ i = length-take-le i facts (omega (arith, within)) in
    ap (account_places before) taken ∙ places_append before (take i facts) (fact ∷ [])
    ∙ ap (λ (n : ℕ). account_places before (take i facts) ++ account_places (before + n) (fact ∷ [])) long
    ∙ ap (λ (p : List ℕ). account_places before (take i facts) ++ p) (one_place (before + i) fact)
    ∙ ap (λ (b : Bool). account_places before (take i facts) ++ (if b then (before + i) ∷ [] else [])) e

-- the places so far, with that of one more fact
pub with_place : (before : ℕ) (facts : List Fact) (i : ℕ) (fact : Fact) (place : ℕ) (places more : List ℕ) → slice_get facts i ≡ Some fact → is_account (subject_of fact) ≡ true
    → place ≡ before + i → places ≡ account_places before (take i facts) → more ≡ places ++ place ∷ [] → more ≡ account_places before (take (i + 1) facts)
with_place before facts i fact place places more at is is_place are_places are_more =
    are_more ∙ ap (λ (p : List ℕ). p ++ place ∷ []) are_places ∙ ap (λ (n : ℕ). account_places before (take i facts) ++ n ∷ []) is_place
    ∙ sym (one_more before facts i fact true at is)

pub without_place : (before : ℕ) (facts : List Fact) (i : ℕ) (fact : Fact) (places : List ℕ) → slice_get facts i ≡ Some fact → is_account (subject_of fact) ≡ false
    → places ≡ account_places before (take i facts) → places ≡ account_places before (take (i + 1) facts)
without_place before facts i fact places at is are_places =
    are_places ∙ sym (append-nil (account_places before (take i facts))) ∙ sym (one_more before facts i fact false at is)

-- ---- the fact at a place

counted : (b : Bool) (n : ℕ) (fact : Fact) (x : List ℕ) (y : List Fact) → length x ≡ length y → length (if b then n ∷ x else x) ≡ length (if b then fact ∷ y else y)
counted true n fact x y h = ap suc h
counted false n fact x y h = h

count_from : (n : ℕ) (facts : List Fact) → length (account_places n facts) ≡ length (account_facts facts)
unfolding account_places
count_from n [] = refl
count_from n (fact ∷ facts) = counted (is_account (subject_of fact)) n fact (account_places (n + 1) facts) (account_facts facts) (count_from (n + 1) facts)

pub count : (places : List ℕ) (facts : List Fact) → AreAccounts places facts → length places ≡ length (account_facts facts)
count places facts h = ap length h ∙ count_from 0 facts

-- the place is so far behind the first, and its fact is the one of this number
record IsPlaced (n : ℕ) (facts accounts : List Fact) (k place : ℕ) : Type 0 where
  pub behind : ℕ
  pub place_is : place ≡ n + behind
  pub within : behind < length facts
  pub fact_is : slice_get facts behind ≡ slice_get accounts k

deeper : (n : ℕ) (fact : Fact) (facts accounts : List Fact) (k place : ℕ) → IsPlaced (n + 1) facts accounts k place → IsPlaced n (fact ∷ facts) accounts k place
deeper n fact facts accounts k place p = record {
  behind = suc p.behind;
  place_is = let e = p.place_is in omega (arith, e);
  within = let e = p.within in omega (arith, e);
  fact_is = p.fact_is;
}

skipped : (n : ℕ) (fact : Fact) (facts accounts : List Fact) (k place : ℕ) → IsPlaced n (fact ∷ facts) accounts k place → IsPlaced n (fact ∷ facts) (fact ∷ accounts) (suc k) place
skipped n fact facts accounts k place p = record { behind = p.behind; place_is = p.place_is; within = p.within; fact_is = p.fact_is }

stepped : (b : Bool) (n : ℕ) (fact : Fact) (facts : List Fact)
    → ((k place : ℕ) → slice_get (account_places (n + 1) facts) k ≡ Some place → IsPlaced (n + 1) facts (account_facts facts) k place)
    → (k place : ℕ) → slice_get (if b then n ∷ account_places (n + 1) facts else account_places (n + 1) facts) k ≡ Some place
    → IsPlaced n (fact ∷ facts) (if b then fact ∷ account_facts facts else account_facts facts) k place
stepped true n fact facts rest zero place h = record {
  behind = 0;
  place_is = let e = same_Some n place h in omega (arith, e);
  within = omega arith;
  fact_is = refl;
}
stepped true n fact facts rest (suc k) place h = skipped n fact facts (account_facts facts) k place (deeper n fact facts (account_facts facts) k place (rest k place h))
stepped false n fact facts rest k place h = deeper n fact facts (account_facts facts) k place (rest k place h)

placed : (n : ℕ) (facts : List Fact) (k place : ℕ) → slice_get (account_places n facts) k ≡ Some place → IsPlaced n facts (account_facts facts) k place
unfolding account_places
placed n [] k place h = absurd cc
placed n (fact ∷ facts) k place h = stepped (is_account (subject_of fact)) n fact facts (placed (n + 1) facts) k place h

found : (places : List ℕ) (facts : List Fact) (k d : ℕ) → AreAccounts places facts → k < length places → IsPlaced 0 facts (account_facts facts) k (get_or places k d)
found places facts k d h within =
    placed 0 facts k (get_or places k d) (ap (λ (p : List ℕ). slice_get p k) (sym h) ∙ slice_get-get_or places k d within)

behind_is : (facts accounts : List Fact) (k place : ℕ) (p : IsPlaced 0 facts accounts k place) → p.behind ≡ place
behind_is facts accounts k place p = let e = p.place_is in omega (arith, e)

pub place_within : (places : List ℕ) (facts : List Fact) (k d : ℕ) → AreAccounts places facts → k < length places → get_or places k d < length facts
place_within places facts k d h within =
    let p = found places facts k d h within in
    subst (λ (n : ℕ). n < length facts) (behind_is facts (account_facts facts) k (get_or places k d) p) p.within

pub fact_at : (places : List ℕ) (facts : List Fact) (k d : ℕ) → AreAccounts places facts → k < length places
    → slice_get facts (get_or places k d) ≡ slice_get (account_facts facts) k
fact_at places facts k d h within =
    let p = found places facts k d h within in
    ap (slice_get facts) (sym (behind_is facts (account_facts facts) k (get_or places k d) p)) ∙ p.fact_is
