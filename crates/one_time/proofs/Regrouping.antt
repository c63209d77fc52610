-- Bits that come in digits of one width and go out in digits of another.
use Rattle.std.proofs.Common.{◌≡◌, ℕ, ◌+◌, ◌-◌, ◌*◌, ◌/◌, ◌%◌, ◌^◌, ◌<◌, ◌≤◌, List, [], ◌∷◌, ◌++◌, length, take, map, get_or, refl, sym, ap, ◌∙◌, add-one, arith, length-append}
use Rattle.std.proofs.Math.Nat.{pow-le-pow_right, mul-suc, div-one}
use Rattle.std.proofs.lemmas.Nat.{shr-shr, shr_below, mod-pow-add, field_of, div-mul-add, mod-mul-add, mul-add-lt, pow-add, pow_pos, mod_below}
use Rattle.std.proofs.lemmas.List.{take_more, take_all, map-append}
use Rattle.std.proofs.lemmas.Int.Digits.{number_push}
use Rattle.std.specs.Int.{div_ceil}
use Rattle.std.specs.Int.Digits.{number_from_digits}
use Rattle.one_time.specs.Base32.{digits_of, digit_of, letters_bytes, IsRegrouped}

pow_up : (i j : ℕ) → i ≤ j → 2 ^ i ≤ 2 ^ j
pow_up i j le = let p : 0 < 2 = omega arith in pow-le-pow_right p le

-- a digit of at most eight bits fits a byte
pub digit_fits : (held count width unit : ℕ) → width ≤ 8 → width ≤ count → held < 2 ^ count → unit ≡ 2 ^ (count - width)
    → held / unit < 256
digit_fits held count width unit narrow enough small is =
    let whole : count ≡ width + (count - width) = omega arith in
    let below : held < 2 ^ (width + (count - width)) = rw (← whole) small in
    let digit : held / 2 ^ (count - width) < 2 ^ width = shr_below held width (count - width) below in
    let top : 2 ^ width ≤ 2 ^ 8 = pow_up width 8 narrow in
    rw is (omega (arith, digit, top))

-- the digit that is handed out is the next one of the number
pub handed_out : (w count held unit v n : ℕ) (digits new : List ℕ) → w ≤ count → unit ≡ 2 ^ (count - w)
    → new ≡ digits ++ held / unit ∷ [] → IsRegrouped w digits held count v n
    → IsRegrouped w new (held % unit) (count - w) v n
unfolding digits_of
handed_out w count held unit v n digits new enough is pushed kept =
    let r : ℕ = count - w in
    let whole : count ≡ w + r = omega arith in
    let turned : count ≡ r + w = omega arith in
    let long : length new ≡ length digits + 1 = ap length pushed ∙ length-append digits (held / unit ∷ []) in
    let front : v / 2 ^ r / 2 ^ w ≡ v / 2 ^ count = shr-shr v r w ∙ ap (λ k. v / 2 ^ k) (sym turned) in
    let last : held / unit ≡ v / 2 ^ r % 2 ^ w =
    ap (λ u. held / u) is ∙ ap (λ h. h / 2 ^ r) kept.1 ∙ ap (λ k. v % 2 ^ k / 2 ^ r) whole ∙ field_of v w r in
    let more : digits_of w (length digits + 1) (v / 2 ^ r) ≡ digits_of w (length digits) (v / 2 ^ count) ++ (v / 2 ^ r % 2 ^ w) ∷ [] =
    rw (add-one, front) refl in
    let same : new ≡ digits_of w (length new) (v / 2 ^ r) =
    pushed ∙ ap (λ l. l ++ held / unit ∷ []) kept.0 ∙ ap (λ d. digits_of w (length digits) (v / 2 ^ count) ++ d ∷ []) last
    ∙ sym more ∙ ap (λ k. digits_of w k (v / 2 ^ r)) (sym long) in
    let low : held % unit ≡ v % 2 ^ r =
    ap (λ u. held % u) is ∙ ap (λ h. h % 2 ^ r) (kept.1 ∙ ap (λ k. v % 2 ^ k) whole ∙ mod-pow-add v w r)
    ∙ mod-mul-add (v / 2 ^ r % 2 ^ w) (2 ^ r) (v % 2 ^ r) (mod_below v (2 ^ r) (pow_pos r)) in
    let total : w * length new ≡ w * length digits + w = ap (λ k. w * k) long ∙ rw add-one (mul-suc w (length digits)) in
    (same, low, omega (arith, kept.2, total))

-- what is held stays below its bits
pub held_below : (held count bits digit : ℕ) → held < 2 ^ count → digit < 2 ^ bits → held * 2 ^ bits + digit < 2 ^ (count + bits)
held_below held count bits digit small below =
    let product : 2 ^ (count + bits) ≡ 2 ^ bits * 2 ^ count = ap (λ k. 2 ^ k) (omega arith) ∙ pow-add 2 bits count in
    rw product (mul-add-lt held (2 ^ bits) digit (2 ^ count) small below)

-- a digit is taken in
pub taken_in : (w count held bits digit v n : ℕ) (digits : List ℕ) → digit < 2 ^ bits → IsRegrouped w digits held count v n
    → IsRegrouped w digits (held * 2 ^ bits + digit) (count + bits) (v * 2 ^ bits + digit) (n + bits)
taken_in w count held bits digit v n digits below kept =
    let m : ℕ = v * 2 ^ bits + digit in
    let turned : count + bits ≡ bits + count = omega arith in
    let high : m / 2 ^ bits ≡ v = div-mul-add v (2 ^ bits) digit below in
    let low : m % 2 ^ bits ≡ digit = mod-mul-add v (2 ^ bits) digit below in
    let front : v / 2 ^ count ≡ m / 2 ^ (count + bits) =
    sym (ap (λ k. m / 2 ^ k) turned ∙ sym (shr-shr m bits count) ∙ ap (λ x. x / 2 ^ count) high) in
    let rest : held * 2 ^ bits + digit ≡ m % 2 ^ (count + bits) =
    sym (mod-pow-add m count bits ∙ ap (λ x. x % 2 ^ count * 2 ^ bits + m % 2 ^ bits) high
    ∙ ap (λ h. h * 2 ^ bits + m % 2 ^ bits) (sym kept.1) ∙ ap (λ d. held * 2 ^ bits + d) low) in
    (kept.0 ∙ ap (digits_of w (length digits)) front, rest, omega (arith, kept.2))

-- the same, with the power and the digit as the code has them
pub first_held : (held count bits digit unit value : ℕ) → unit ≡ 2 ^ bits → value ≡ digit → held < 2 ^ count → digit < 2 ^ bits
    → held * unit + value < 2 ^ (count + bits)
first_held held count bits digit unit value is same small below =
    rw (is, same) (held_below held count bits digit small below)

pub first_taken : (w count held bits digit v n unit value : ℕ) (digits : List ℕ) → unit ≡ 2 ^ bits → value ≡ digit → digit < 2 ^ bits
    → IsRegrouped w digits held count v n
    → IsRegrouped w digits (held * unit + value) (count + bits) (v * 2 ^ bits + digit) (n + bits)
first_taken w count held bits digit v n unit value digits is same below kept =
    rw (is, same) (taken_in w count held bits digit v n digits below kept)

-- no bits
pub no_bits : (w : ℕ) (digits : List ℕ) → digits ≡ [] → IsRegrouped w digits 0 0 0 0
unfolding digits_of
no_bits w digits none = rw none (refl, refl, omega arith)

-- all whole digits of eight bits
pub all_bytes : (v n count held : ℕ) (digits : List ℕ) → count < 8 → IsRegrouped 8 digits held count v n
    → digits ≡ digits_of 8 (n / 8) (v / 2 ^ (n % 8))
all_bytes v n count held digits ready kept =
    let total : n ≡ 8 * length digits + count = kept.2 in
    let whole : length digits ≡ n / 8 = omega (arith, total, ready) in
    let left : count ≡ n % 8 = omega (arith, total, ready) in
    kept.0 ∙ ap (λ k. digits_of 8 k (v / 2 ^ count)) whole ∙ ap (λ k. digits_of 8 (n / 8) (v / 2 ^ k)) left

-- all digits of five bits, where zeros make the last one whole
pub all_letters : (v n missing count held k : ℕ) (digits : List ℕ) → missing < 5 → count < 5 → n + missing ≡ 5 * k
    → IsRegrouped 5 digits held count (v * 2 ^ missing) (n + missing)
    → digits ≡ digits_of 5 (div_ceil n 5) (v * 2 ^ (5 * div_ceil n 5 - n))
all_letters v n missing count held k digits few ready sum kept =
    let total : n + missing ≡ 5 * length digits + count = kept.2 in
    let whole : length digits ≡ k = omega (arith, total, sum, ready) in
    let none : count ≡ 0 = omega (arith, total, sum, ready) in
    let ceil : k ≡ div_ceil n 5 = omega (arith, sum, few) in
    let zeros : missing ≡ 5 * div_ceil n 5 - n = omega (arith, sum, few, ceil) in
    kept.0 ∙ ap (λ c. digits_of 5 (length digits) (v * 2 ^ missing / 2 ^ c)) none
    ∙ ap (digits_of 5 (length digits)) (div-one (v * 2 ^ missing))
    ∙ ap (λ j. digits_of 5 j (v * 2 ^ missing)) (whole ∙ ceil)
    ∙ ap (λ m. digits_of 5 (div_ceil n 5) (v * 2 ^ m)) zeros

-- one more letter
pub letter_more : (i : ℕ) (letters : List ℕ) → i < length letters
    → number_from_digits (2 ^ 5) (map digit_of (take (i + 1) letters))
    ≡ number_from_digits (2 ^ 5) (map digit_of (take i letters)) * 2 ^ 5 + digit_of (get_or letters i 0)
letter_more i letters below =
    ap (λ (l : List ℕ). number_from_digits (2 ^ 5) (map digit_of l)) (take_more letters i 0 below)
    ∙ ap (number_from_digits (2 ^ 5)) (map-append digit_of (take i letters) (get_or letters i 0 ∷ []))
    ∙ number_push (2 ^ 5) (map digit_of (take i letters)) (digit_of (get_or letters i 0))

-- the same bits, with their number written otherwise
pub same_bits : (w count held v n u m : ℕ) (digits : List ℕ) → v ≡ u → n ≡ m
    → IsRegrouped w digits held count v n → IsRegrouped w digits held count u m
same_bits w count held v n u m digits e f kept = rw (← e, ← f) kept

-- the bytes of all letters
pub all_letter_bytes : (i count held : ℕ) (letters digits : List ℕ) → i ≡ length letters → count < 8
    → IsRegrouped 8 digits held count (number_from_digits (2 ^ 5) (map digit_of (take i letters))) (5 * i)
    → digits ≡ letters_bytes letters
unfolding letters_bytes
all_letter_bytes i count held letters digits end ready kept =
    let whole : take i letters ≡ letters = take_all i letters (omega (arith, end)) in
    all_bytes (number_from_digits (2 ^ 5) (map digit_of letters)) (5 * length letters) count held digits ready
    (rw (whole, end) at kept)

-- the digits of bytes whose last one is filled up
pub some_missing : (v n before after held left : ℕ) (old digits : List ℕ) → before < 5 → 0 < before → after < 5
    → IsRegrouped 5 old held before v n
    → IsRegrouped 5 digits left after (v * 2 ^ (5 - before) + 0) (n + (5 - before))
    → digits ≡ digits_of 5 (div_ceil n 5) (v * 2 ^ (5 * div_ceil n 5 - n))
some_missing v n before after held left old digits ready some end kept made =
    let sum : n + (5 - before) ≡ 5 * (length old + 1) = omega (arith, kept.2) in
    all_letters v n (5 - before) after left (length old + 1) digits (omega arith) end sum
    (same_bits 5 after left (v * 2 ^ (5 - before) + 0) (n + (5 - before)) (v * 2 ^ (5 - before)) (n + (5 - before)) digits (omega arith) refl made)
