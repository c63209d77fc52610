-- Accounts are counted by the set of the users that are put.
use Rattle.std.proofs.Common.{◌≡◌, ℕ, ◌+◌, ◌-◌, ◌^◌, ◌<◌, ◌≤◌, Bool, true, false, ◌||◌, cond, min, List, [], ◌∷◌, ◌++◌, length, length-append, take, Some, nat_eq, nat_lt, nat_cmp, slice_get, refl, ap, sym, subst, zero-add, ◌∙◌, arith}
use Rattle.std.specs.Prelude.{fold}
use Rattle.std.specs.BTreeSet.{BTreeSet, IsOrdered, Updates, btree_set_len}
use Rattle.std.specs.Ordering.{eq_by_cmp}
use Rattle.std.specs.Set.{is_member, unique_keys}
use Rattle.std.proofs.Math.Bool.{or-false}
use Rattle.std.proofs.lemmas.Bool.{lt-ltb}
use Rattle.std.proofs.lemmas.Bool.Decides.{nat_tests}
use Rattle.std.proofs.lemmas.Cmp.{nat_cmp_total}
use Rattle.std.proofs.lemmas.List.{take_more}
use Rattle.std.proofs.lemmas.List.Elements.{filter_map-append}
use Rattle.std.proofs.lemmas.List.Folds.{list_any-append}
use Rattle.std.proofs.lemmas.Map.Made.{distinct_count-le}
use Rattle.std.proofs.lemmas.Map.Views.{btree_set_len-from_list}
use Rattle.std.proofs.lemmas.Option.{get_or_from_slice_get, slice_get_within}
use Rattle.facts.specs.declared.fact.Fact.{Fact}
use Rattle.facts.specs.declared.fact.Fact.TheVariants as events
use Rattle.account_states.specs.Carrying.{puts_after}
use Rattle.account_states.specs.Count.{user_put, users_put, account_count, has_few_puts, has_room, Gains}

or_assoc : (a b c : Bool) → ((a || b) || c) ≡ (a || (b || c))
or_assoc true b c = refl
or_assoc false b c = refl

-- ---- users that are put

pub users_append : (old more : List Fact) → users_put (old ++ more) ≡ users_put old ++ users_put more
users_append old more = filter_map-append user_put old more

pub users_more : (facts : List Fact) (i : ℕ) (fact : Fact) → slice_get facts i ≡ Some fact → users_put (take (i + 1) facts) ≡ users_put (take i facts) ++ users_put (fact ∷ [])
users_more facts i fact at =
    let e = take_more facts i fact (slice_get_within facts i fact at) ∙ ap (λ x. take i facts ++ x ∷ []) (get_or_from_slice_get facts i fact fact at) in
    ap users_put e ∙ users_append (take i facts) (fact ∷ [])

few_users : (facts : List Fact) → length (users_put facts) ≤ length facts
few_users [] = omega arith
few_users (events.UserPut user name roles ∷ facts) = let rest = few_users facts in omega (arith, rest)
few_users (fact ∷ facts) = let rest = few_users facts in omega (arith, rest)

-- lists that are shorter than the limit put fewer users
pub few_by_length : (facts old more : List Fact) (total most : ℕ) → facts ≡ old ++ more → total ≡ min (length old + length more) (2 ^ 64 - 1) → total < most
    → most ≤ 2 ^ 64 - 1 → true ≡ nat_lt (length (users_put facts)) most
few_by_length facts old more total most is sum less fits =
    let few = few_users facts in
    let all : length facts ≡ length old + length more = ap length is ∙ length-append old more in
    sym (lt-ltb _ _ (omega (arith, few, all, sum, less, fits)))

-- and longer lists are no shorter than the limit
pub not_short : (facts old more : List Fact) (total most : ℕ) → facts ≡ old ++ more → total ≡ min (length old + length more) (2 ^ 64 - 1) → most ≤ total
    → length facts < most → ⊥
not_short facts old more total most is sum long short =
    let all : length facts ≡ length old + length more = ap length is ∙ length-append old more in
    omega (arith, all, sum, long, short)

-- many are put by a long list alone
pub many_is_long : (facts : List Fact) (few : Bool) → few ≡ has_few_puts facts → few ≡ false → length facts < 100000 → ⊥
many_is_long facts few is many short =
    let least = few_users facts in
    let so : has_few_puts facts ≡ true = lt-ltb _ _ (omega (arith, least, short)) in
    both few is many so
  where
    both : (few : Bool) → few ≡ has_few_puts facts → few ≡ false → has_few_puts facts ≡ true → ⊥
    both few a b c = absurd cc

counted_from : (n : ℕ) (facts : List Fact) → n ≤ 2 ^ 64 - 1 → fold puts_after n facts ≡ min (n + length (users_put facts)) (2 ^ 64 - 1)
counted_from n [] fits = omega arith
counted_from n (events.UserPut user name roles ∷ facts) fits = let rest = counted_from (min (n + 1) (2 ^ 64 - 1)) facts (omega arith) in rest ∙ omega arith
counted_from n (fact ∷ facts) fits = counted_from n facts fits

below : (n puts most : ℕ) → n ≡ min puts (2 ^ 64 - 1) → most ≤ 2 ^ 64 - 1 → nat_lt n most ≡ nat_lt puts most
below n puts most is fits = grind (arith, nat_tests)

-- so the count that may stand still tells whether they are few
pub few_by_count : (facts : List Fact) (n most : ℕ) → n ≡ fold puts_after 0 facts → most ≤ 2 ^ 64 - 1 → nat_lt n most ≡ nat_lt (length (users_put facts)) most
few_by_count facts n most is fits =
    below n (length (users_put facts)) most
    (is ∙ counted_from 0 facts (omega arith) ∙ ap (λ (m : ℕ). min m (2 ^ 64 - 1)) (zero-add (length (users_put facts)))) fits

-- where fewer are put than may be there, there is room
pub room_of_few : (facts : List Fact) → has_few_puts facts ≡ true → has_room facts ≡ true
unfolding has_room account_count
room_of_few facts few =
    let le = distinct_count-le nat_eq (users_put facts) in
    grind (arith, nat_tests, le)

-- ---- the set

pub gains_nothing : (set : BTreeSet ℕ) → Gains set [] set
gains_nothing set q = sym (or-false (is_member (eq_by_cmp nat_cmp) set.keys q))

pub gains_on : (first second third : BTreeSet ℕ) (some more : List ℕ) → Gains first some second → Gains second more third → Gains first (some ++ more) third
gains_on first second third some more one two q =
    let of : List ℕ → Bool = λ (serials : List ℕ). is_member (eq_by_cmp nat_cmp) serials q in
    two q ∙ ap (λ b. b || of more) (one q) ∙ or_assoc (of first.keys) (of some) (of more)
    ∙ ap (λ b. of first.keys || b) (sym (list_any-append (eq_by_cmp nat_cmp q) some more))

-- the fact at a place is noted too
pub gains_more : (first second third : BTreeSet ℕ) (facts : List Fact) (i : ℕ) (fact : Fact) → slice_get facts i ≡ Some fact
    → Gains first (users_put (take i facts)) second → Gains second (users_put (fact ∷ [])) third → Gains first (users_put (take (i + 1) facts)) third
gains_more first second third facts i fact at before one =
    let both = gains_on first second third (users_put (take i facts)) (users_put (fact ∷ [])) before one in
    subst (λ (serials : List ℕ). Gains first serials third) (sym (users_more facts i fact at)) both

-- so are all facts, one list after the other
pub gains_all : (first second third : BTreeSet ℕ) (old more : List Fact) → Gains first (users_put old) second → Gains second (users_put more) third
    → Gains first (users_put (old ++ more)) third
gains_all first second third old more before after =
    let both = gains_on first second third (users_put old) (users_put more) before after in
    subst (λ (serials : List ℕ). Gains first serials third) (sym (users_append old more)) both

same_test : (a b : ℕ) → eq_by_cmp nat_cmp a b ≡ nat_eq a b
same_test a b = grind (arith, nat_tests)

either_way : (a b : ℕ) → eq_by_cmp nat_cmp a b ≡ eq_by_cmp nat_cmp b a
either_way a b = grind (arith, nat_tests)

pub gains_one : (old new : BTreeSet ℕ) (serial : ℕ) → Updates nat_cmp old new serial true → Gains old (serial ∷ []) new
gains_one old new serial updates q =
    updates.0 q ∙ ap (λ b. cond b true (is_member (eq_by_cmp nat_cmp) old.keys q)) (either_way serial q)
    ∙ chosen (eq_by_cmp nat_cmp q serial) (is_member (eq_by_cmp nat_cmp) old.keys q)
  where
    chosen : (is had : Bool) → cond is true had ≡ (had || (is || false))
    chosen true true = refl
    chosen true false = refl
    chosen false true = refl
    chosen false false = refl

member_same : (serials : List ℕ) (q : ℕ) → is_member (eq_by_cmp nat_cmp) serials q ≡ is_member nat_eq serials q
member_same [] q = refl
member_same (serial ∷ serials) q = rw (same_test q serial, member_same serials q) refl

unique_same : (serials : List ℕ) → unique_keys (eq_by_cmp nat_cmp) serials ≡ unique_keys nat_eq serials
unique_same [] = refl
unique_same (serial ∷ serials) = rw (member_same serials serial, unique_same serials) refl

-- a set that was empty has as many keys as there are accounts
pub set_counts : (empty full : BTreeSet ℕ) (facts : List Fact) → empty.keys ≡ [] → Gains empty (users_put facts) full → IsOrdered nat_cmp full → btree_set_len full ≡ account_count facts
unfolding account_count
set_counts empty full facts none gains ordered =
    let has : (q : ℕ) → is_member (eq_by_cmp nat_cmp) full.keys q ≡ is_member (eq_by_cmp nat_cmp) (users_put facts) q =
    λ (q : ℕ). gains q ∙ ap (λ (keys : List ℕ). is_member (eq_by_cmp nat_cmp) keys q || is_member (eq_by_cmp nat_cmp) (users_put facts) q) none in
    btree_set_len-from_list nat_cmp_total (users_put facts) full (has, ordered) ∙ ap length (unique_same (users_put facts))
