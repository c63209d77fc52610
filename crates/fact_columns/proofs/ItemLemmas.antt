-- Each kind of item is read as it was written.
use Rattle.std.proofs.Common.{◌≡◌, ℕ, zero, suc, ◌-◌, ◌^◌, ◌<◌, ◌≤◌, Bool, true, false, not, ◌&&◌, ◌==◌, List, [], ◌∷◌, ◌++◌, length, length-append, Less, Equal, Greater, Ordering, refl, ap, sym, subst, ◌∙◌, arith}
use Rattle.std.specs.Prelude.{Option, Some, None, decimal, nat_le, nat_lt, position, filter, fold, max, slice_get}
use Rattle.std.specs.Cmp.Lexicographic.{slice_cmp}
use Rattle.std.specs.List.{All, list_all, position_or_len}
use Rattle.std.specs.Ordering.{nat_cmp, is_lt, ordering_reverse}
use Rattle.std.specs.Str.Parse.{AllDigits}
use Rattle.std.proofs.lemmas.Bool.{and_parts, false≢true}
use Rattle.std.proofs.lemmas.Bool.Decides.{nat_tests}
use Rattle.std.proofs.lemmas.Cmp.{nat_list_cmp_total}
use Rattle.std.proofs.lemmas.Fmt.{decimal_is_IsNumeral, decimal_nonempty}
use Rattle.std.proofs.lemmas.List.Elements.{All-nil, All-cons, All-append}
use Rattle.std.proofs.lemmas.Map.Lookups.{exact_bytes}
use Rattle.std.proofs.lemmas.Str.Parse.{digit_from_value}
use Rattle.std.proofs.Math.Seq.{take-append_seam, drop-append_seam}
use Rattle.login_base.specs.Names.{is_name, is_name_byte, is_first_byte}
use Rattle.realm_data.specs.declared.action.Action.{Action}
use Rattle.realm_data.specs.declared.action.Action.TheVariants as actions
use Rattle.decimal_text.specs.Numbers.{number}
use Rattle.decimal_text.proofs.NumberLemmas.{number-decimal}
use Rattle.keeper_columns.specs.declared.levels.ReachedLevel.{ReachedLevel}
use Rattle.keeper_columns.specs.Words.{role_in, is_role_before, action_in, place_of, is_action_before, step_in, is_step_before, level_in, is_level_before, newest_step, are_steps_near}
use Rattle.fact_columns.specs.Words.{role_text, action_word, level_text, is_reached, is_step, greatest_step, near_steps, kept_steps}
use Rattle.fact_columns.proofs.ReadBack.{IsRead, Ties, is_comma, in_order_all}

-- bytes that pass a test which this byte doesn't pass
apart_from : (byte : ℕ) (p : ℕ → Bool) → ((b : ℕ) → p b ≡ true → (b == byte) ≡ false) → (bs : List ℕ) → list_all p bs ≡ true → All (λ b. (b == byte) ≡ false) bs
apart_from byte p each [] h = All-nil _
apart_from byte p each (b ∷ bs) h =
    let parts = and_parts (p b) (list_all p bs) h in
    All-cons (λ x. (x == byte) ≡ false) b bs (each b parts.0) (apart_from byte p each bs parts.1)

-- ---- names

name_byte : (b : ℕ) → is_name_byte b ≡ true → is_comma b ≡ false
name_byte b h = grind (arith, nat_tests)

pub name_read : (name : List ℕ) → is_name name ≡ true → IsRead role_text role_in name
name_read [] h = absurd (false≢true h)
name_read (b ∷ bs) h =
    let bytes = and_parts (nat_le (length (b ∷ bs)) 64 && is_first_byte b) (list_all is_name_byte (b ∷ bs)) h in
    record { some = omega arith; plain = apart_from 44 is_name_byte name_byte (b ∷ bs) bytes.1; back = rw h refl }

not_less : (o : Ordering) → is_lt o ≡ false → is_lt (ordering_reverse o) ≡ false → o ≡ Equal
not_less Less p q = absurd (false≢true (sym p))
not_less Equal p q = refl
not_less Greater p q = absurd (false≢true (sym q))

pub names_tie : Ties is_role_before
names_tie x y z p q h =
    let flip : is_lt (ordering_reverse (slice_cmp nat_cmp y x)) ≡ false = ap is_lt (sym (nat_list_cmp_total.antisymm x y)) ∙ q in
    let same : y ≡ x = exact_bytes y x (not_less (slice_cmp nat_cmp y x) p flip) in
    subst (λ w. is_role_before w z ≡ true) same h

-- ---- actions

letter : (b : ℕ) → not (is_comma b) ≡ true → is_comma b ≡ false
letter b h = grind (arith, nat_tests)

pub action_read : (action : Action) → IsRead action_word action_in action
action_read actions.Terms = record { some = omega arith; plain = apart_from 44 (λ b. not (is_comma b)) letter (action_word actions.Terms) refl; back = refl }
action_read actions.VerifyEmail = record { some = omega arith; plain = apart_from 44 (λ b. not (is_comma b)) letter (action_word actions.VerifyEmail) refl; back = refl }
action_read actions.UpdatePassword = record { some = omega arith; plain = apart_from 44 (λ b. not (is_comma b)) letter (action_word actions.UpdatePassword) refl; back = refl }
action_read actions.ConfigureOtp = record { some = omega arith; plain = apart_from 44 (λ b. not (is_comma b)) letter (action_word actions.ConfigureOtp) refl; back = refl }
action_read actions.RecoveryCodes = record { some = omega arith; plain = apart_from 44 (λ b. not (is_comma b)) letter (action_word actions.RecoveryCodes) refl; back = refl }

pub numbers_tie : (x y z : ℕ) → nat_lt y x ≡ false → nat_lt x y ≡ false → nat_lt y z ≡ true → nat_lt x z ≡ true
numbers_tie x y z p q h = grind (arith, nat_tests)

pub actions_tie : Ties is_action_before
actions_tie x y z p q h = numbers_tie (place_of x) (place_of y) (place_of z) p q h

-- ---- numbers

digits_apart : (byte : ℕ) → byte < 48 → (ds : List ℕ) → AllDigits 10 ds → All (λ b. (b == byte) ≡ false) ds
digits_apart byte low [] all = All-nil _
digits_apart byte low (d ∷ ds) all =
    let range = digit_from_value d all.0 in
    let apart : (d == byte) ≡ false = grind (arith, nat_tests) in
    All-cons (λ x. (x == byte) ≡ false) d ds apart (digits_apart byte low ds all.1)

digits : (n : ℕ) → n < 2 ^ 64 → AllDigits 10 (decimal n)
digits n h = (decimal_is_IsNumeral n h).0.1

small : (n most : ℕ) → nat_le n most ≡ true → n ≤ most
small n most h = grind (arith, nat_tests)

pub step_read : (n : ℕ) → is_step n ≡ true → IsRead decimal step_in n
step_read n h =
    let le = small n (2 ^ 64 - 1) h in
    let fits : n < 2 ^ 64 = omega arith in
    record { some = decimal_nonempty n fits; plain = digits_apart 44 (omega arith) (decimal n) (digits n fits); back = number-decimal (2 ^ 64 - 1) n (decimal n) fits le refl }

pub steps_tie : Ties is_step_before
steps_tie = numbers_tie

-- ---- levels

at_place : (ds more : List ℕ) → AllDigits 10 ds → position_or_len (λ b. b == 64) (ds ++ 64 ∷ more) ≡ length ds
at_place [] more all = refl
at_place (d ∷ ds) more all =
    let range = digit_from_value d all.0 in
    let apart : (d == 64) ≡ false = grind (arith, nat_tests) in
    let later = at_place ds more all.1 in
    rw apart (omega arith)

at_found : (ds more : List ℕ) → AllDigits 10 ds → position (λ b. b == 64) (ds ++ 64 ∷ more) ≡ Some (length ds)
at_found ds more all =
    let at = at_place ds more all in
    let within : length ds < length (ds ++ 64 ∷ more) = simp length-append (omega arith) in
    rw at (grind (arith, nat_tests))

leveled : (level moment : List ℕ) (r : ReachedLevel) → position (λ b. b == 64) (level ++ 64 ∷ moment) ≡ Some (length level)
    → number 1000 level ≡ Some r.level → number (2 ^ 53 - 1) moment ≡ Some r.moment → nat_le 1 r.level ≡ true → nat_le r.moment (2 ^ 53 - 1) ≡ true
    → level_in (level ++ 64 ∷ moment) ≡ Some r
leveled level moment r at l m low soon =
    let t = take-append_seam level (64 ∷ moment) in
    let d = drop-append_seam level (64 ∷ moment) in
    rw (at, t, d, l, m, low, soon) refl

three : (a b c : Bool) → (a && b && c) ≡ true → (a ≡ true) × (b ≡ true) × (c ≡ true)
three true true c h = (refl, refl, h)
three true false c h = absurd (false≢true h)
three false b c h = absurd (false≢true h)

pub level_read : (r : ReachedLevel) → is_reached r ≡ true → IsRead level_text level_in r
level_read r h =
    let parts = three (nat_le 1 r.level) (nat_le r.level 1000) (nat_le r.moment (2 ^ 53 - 1)) h in
    let low = small r.level 1000 parts.1 in
    let soon = small r.moment (2 ^ 53 - 1) parts.2 in
    let ls : r.level < 2 ^ 64 = omega arith in
    let ms : r.moment < 2 ^ 64 = omega arith in
    let level : List ℕ = decimal r.level in
    let moment : List ℕ = decimal r.moment in
    let some = decimal_nonempty r.level ls in
    record {
      some = simp length-append (omega arith);
      plain = All-append (λ b. is_comma b ≡ false) level (64 ∷ moment) (digits_apart 44 (omega arith) level (digits r.level ls))
          (All-cons (λ b. is_comma b ≡ false) 64 moment refl (digits_apart 44 (omega arith) moment (digits r.moment ms)));
      back = leveled level moment r (at_found level moment (digits r.level ls))
          (number-decimal 1000 r.level level ls low refl) (number-decimal (2 ^ 53 - 1) r.moment moment ms soon refl) parts.0 parts.2;
    }

pub levels_tie : Ties is_level_before
levels_tie x y z p q h = numbers_tie x.level y.level z.level p q h

-- ---- steps near the greatest

abbrev is_near : ℕ → ℕ → Bool
is_near greatest step = nat_le step greatest && nat_le (greatest - step) 4

above_start : (start : ℕ) (steps : List ℕ) → start ≤ fold max start steps
above_start start [] = omega arith
above_start start (s ∷ steps) = let le = above_start (max start s) steps in omega arith

all_below : (start : ℕ) (steps : List ℕ) → list_all (λ s. nat_le s (fold max start steps)) steps ≡ true
all_below start [] = refl
all_below start (s ∷ steps) =
    let le = above_start (max start s) steps in
    let own : nat_le s (fold max (max start s) steps) ≡ true = grind (arith, nat_tests) in
    rw own (all_below (max start s) steps)

filtered : (p q : ℕ → Bool) (xs : List ℕ) → list_all p xs ≡ true → list_all (λ x. p x && q x) (filter q xs) ≡ true
filtered p q [] h = refl
filtered p q (x ∷ xs) h =
    let parts = and_parts (p x) (list_all p xs) h in
    go (q x) refl parts.0 (filtered p q xs parts.1)
  where
    go : (b : Bool) → q x ≡ b → p x ≡ true → list_all (λ x. p x && q x) (filter q xs) ≡ true → list_all (λ x. p x && q x) (filter q (x ∷ xs)) ≡ true
    go true is own later = rw (is, own, is) later
    go false is own later = rw is later

weaker : (p q : ℕ → Bool) → ((x : ℕ) → p x ≡ true → q x ≡ true) → (xs : List ℕ) → list_all p xs ≡ true → list_all q xs ≡ true
weaker p q each [] h = refl
weaker p q each (x ∷ xs) h =
    let parts = and_parts (p x) (list_all p xs) h in
    rw (each x parts.0) (weaker p q each xs parts.1)

at_each : (p : ℕ → Bool) (xs : List ℕ) (i x : ℕ) → list_all p xs ≡ true → slice_get xs i ≡ Some x → p x ≡ true
at_each p [] i x h e = absurd cc
at_each p (y ∷ xs) zero x h e =
    let parts = and_parts (p y) (list_all p xs) h in
    let same : y ≡ x = cc in
    rw (← same) parts.0
at_each p (y ∷ xs) (suc i) x h e = at_each p xs i x (and_parts (p y) (list_all p xs) h).1 e

both_near : (greatest newest step : ℕ) → is_near greatest newest ≡ true → is_near greatest step ≡ true → nat_le (newest - step) 4 ≡ true
both_near greatest newest step h k =
    let a = and_parts (nat_le newest greatest) (nat_le (greatest - newest) 4) h in
    let b = and_parts (nat_le step greatest) (nat_le (greatest - step) 4) k in
    let le = small newest greatest a.0 in
    let gap = small (greatest - step) 4 b.1 in
    grind (arith, nat_tests)

pub near_kept : (steps : List ℕ) → are_steps_near (kept_steps steps) (newest_step (kept_steps steps)) ≡ true
near_kept steps = go (newest_step kept) refl
  where
    greatest : ℕ
    greatest = greatest_step steps

    kept : List ℕ
    kept = kept_steps steps

    all : list_all (is_near (greatest_step steps)) (kept_steps steps) ≡ true
    all = in_order_all is_step_before (is_near (greatest_step steps)) (near_steps steps)
        (filtered (λ s. nat_le s (greatest_step steps)) (λ s. nat_le (greatest_step steps - s) 4) steps (all_below 0 steps))

    go : (newest : Option ℕ) → newest_step (kept_steps steps) ≡ newest → are_steps_near (kept_steps steps) newest ≡ true
    go None e = refl
    go (Some newest) e =
        let own = at_each (is_near (greatest_step steps)) (kept_steps steps) _ newest all e in
        weaker (is_near (greatest_step steps)) (λ step. nat_le (newest - step) 4) (λ step near. both_near (greatest_step steps) newest step own near) (kept_steps steps) all

filter_all : (p q : ℕ → Bool) (xs : List ℕ) → list_all p xs ≡ true → list_all p (filter q xs) ≡ true
filter_all p q [] h = refl
filter_all p q (x ∷ xs) h =
    let parts = and_parts (p x) (list_all p xs) h in
    go (q x) refl parts.0 (filter_all p q xs parts.1)
  where
    go : (b : Bool) → q x ≡ b → p x ≡ true → list_all p (filter q xs) ≡ true → list_all p (filter q (x ∷ xs)) ≡ true
    go true is own later = rw (is, own) later
    go false is own later = rw is later

pub near_all : (steps : List ℕ) → list_all is_step steps ≡ true → list_all is_step (near_steps steps) ≡ true
near_all steps h = filter_all is_step (λ s. nat_le (greatest_step steps - s) 4) steps h
