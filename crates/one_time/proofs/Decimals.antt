-- Decimal digits, written from the last on.
use Rattle.std.proofs.Common.{◌≡◌, ℕ, zero, suc, ◌+◌, ◌-◌, ◌*◌, ◌/◌, ◌%◌, ◌^◌, ◌<◌, ◌≤◌, List, [], length, take, drop, refl, sym, ap, ◌∙◌, zero-add, add-one, arith}
use Rattle.std.proofs.Math.ListN.{set}
use Rattle.std.proofs.Math.Nat.{div-div-eq-div-mul, pow-suc, suc-add}
use Rattle.std.proofs.lemmas.List.{drop-set, take_all}
use Rattle.one_time.specs.Hotp.{decimal_text}

-- one more digit is written
pub digit_more : (text : List ℕ) (i n d : ℕ) → length text ≡ 8 → i < 8 → d ≡ 48 + n / 10 ^ i % 10
    → drop (8 - i) text ≡ decimal_text i n → drop (8 - (i + 1)) (set text (7 - i) d) ≡ decimal_text (i + 1) n
unfolding decimal_text
digit_more text i n d long below digit done =
    let at : 8 - (i + 1) ≡ 7 - i = omega arith in
    let next : 7 - i + 1 ≡ 8 - i = omega arith in
    let within : 7 - i < length text = omega arith in
    rw (at, drop-set text (7 - i) d within, next, done, digit, add-one) refl

-- the digits that are left
pub rest_more : (n i rest : ℕ) → rest ≡ n / 10 ^ i → rest / 10 ≡ n / 10 ^ (i + 1)
rest_more n i rest is =
    let power : 10 ^ (i + 1) ≡ 10 ^ i * 10 = rw add-one (pow-suc 10 i) in
    ap (λ r. r / 10) is ∙ div-div-eq-div-mul n (10 ^ i) 10 ∙ ap (λ p. n / p) (sym power)

-- the last digits of more digits
decimal_text-drop : (j k n : ℕ) → drop j (decimal_text (j + k) n) ≡ decimal_text k n
unfolding decimal_text
decimal_text-drop zero k n = rw (zero-add k) refl
decimal_text-drop (suc j) k n = rw (suc-add j k) (decimal_text-drop j k n)

-- no digit is written
pub digit_none : (n : ℕ) → [] ≡ decimal_text 0 n
unfolding decimal_text
digit_none n = refl

-- the last digits of eight
last_digits : (k n : ℕ) → k ≤ 8 → drop (8 - k) (decimal_text 8 n) ≡ decimal_text k n
last_digits k n few =
    let whole : 8 ≡ (8 - k) + k = omega arith in
    ap (λ m. drop (8 - k) (decimal_text m n)) whole ∙ decimal_text-drop (8 - k) k n

length-decimal_text : (k n : ℕ) → length (decimal_text k n) ≡ k
unfolding decimal_text
length-decimal_text zero n = refl
length-decimal_text (suc k) n = ap suc (length-decimal_text k n)

-- the part of eight digits that a code of fewer compares with
pub last_part : (k v n : ℕ) (eight : List ℕ) → k ≤ 8 → eight ≡ decimal_text 8 v → v ≡ n
    → take (8 - (8 - k)) (drop (8 - k) eight) ≡ decimal_text k n
last_part k v n eight few is same =
    let part : drop (8 - k) eight ≡ decimal_text k n =
    ap (drop (8 - k)) is ∙ last_digits k v few ∙ ap (decimal_text k) same in
    ap (take (8 - (8 - k))) part
    ∙ take_all (8 - (8 - k)) (decimal_text k n) (omega (arith, length-decimal_text k n))
