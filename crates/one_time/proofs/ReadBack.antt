-- Reading the base32 text of bytes gives the bytes.
use Rattle.std.proofs.Common.{◌≡◌, ℕ, zero, suc, ◌+◌, ◌-◌, ◌*◌, ◌/◌, ◌%◌, ◌^◌, ◌<◌, ◌≤◌, Bool, false, List, [], ◌∷◌, ◌++◌, Some, None, Ok, length, map, take, get_or, refl, sym, ap, ◌∙◌, inl, inr, add-one, arith, length-append, mul-zero}
use Rattle.std.specs.Prelude.{is_none, unwrap_or, nat_lt, ◌≢◌}
use Rattle.std.specs.List.{position_or_len, suffix_len}
use Rattle.std.specs.Int.{div_ceil}
use Rattle.std.specs.Int.Digits.{number_from_digits}
use Rattle.std.proofs.Math.Nat.{mul-suc, mod-eq_of_lt}
use Rattle.std.proofs.lemmas.Nat.{mod_below, mod-pow-add, div-mul-add, mod-mul-add, shl-shr, shl_below, pow_pos}
use Rattle.std.proofs.lemmas.Int.Digits.{number_push, number_more}
use Rattle.std.proofs.lemmas.List.{length-map, take_more, take_all, get_or_append_left, get_or_push}
use Rattle.std.proofs.lemmas.List.Sums.{suffix_len_is, position_or_len_is}
use Rattle.std.proofs.lemmas.Bool.{cases_lt}
use Rattle.std.proofs.lemmas.Bool.Decides.{nat_tests}
use Rattle.one_time.specs.Base32.{base32_bytes, base32_letters, byte_digits, digits_of, digit_of, fault_from, fault_of, first_bad, is_bad_length, is_fill, letter_of, letter_value, letters_bytes, spelled, without_fill}
use Rattle.one_time.proofs.Regrouping.{held_below}

-- the number of a number's last digits
digits_value : (w k v : ℕ) → number_from_digits (2 ^ w) (digits_of w k v) ≡ v % 2 ^ (w * k)
unfolding digits_of
digits_value w zero v = rw (mul-zero w) (omega arith)
digits_value w (suc k) v =
    number_push (2 ^ w) (digits_of w k (v / 2 ^ w)) (v % 2 ^ w)
    ∙ ap (λ n. n * 2 ^ w + v % 2 ^ w) (digits_value w k (v / 2 ^ w))
    ∙ sym (mod-pow-add v (w * k) w)
    ∙ ap (λ j. v % 2 ^ j) (sym (mul-suc w k))

-- digits and their number
front_value : (w i : ℕ) (ds : List ℕ) → ((j : ℕ) → j < length ds → get_or ds j 0 < 2 ^ w) → i ≤ length ds
    → (digits_of w i (number_from_digits (2 ^ w) (take i ds)) ≡ take i ds) × (number_from_digits (2 ^ w) (take i ds) < 2 ^ (w * i))
unfolding digits_of
front_value w zero ds below inside = (refl, pow_pos (w * 0))
front_value w (suc i) ds below inside =
    let kept = front_value w i ds below (omega arith) in
    let n : ℕ = number_from_digits (2 ^ w) (take i ds) in
    let d : ℕ = get_or ds i 0 in
    let small : d < 2 ^ w = below i (omega arith) in
    let within : i < length ds = omega arith in
    let grown : number_from_digits (2 ^ w) (take (suc i) ds) ≡ n * 2 ^ w + d = rw (← add-one i) (number_more (2 ^ w) ds i within) in
    let more : take (suc i) ds ≡ take i ds ++ d ∷ [] = rw (← add-one i) (take_more ds i 0 within) in
    let high : (n * 2 ^ w + d) / 2 ^ w ≡ n = div-mul-add n (2 ^ w) d small in
    let low : (n * 2 ^ w + d) % 2 ^ w ≡ d = mod-mul-add n (2 ^ w) d small in
    let bound : n * 2 ^ w + d < 2 ^ (w * i + w) = held_below n (w * i) w d kept.1 small in
    let room : w * suc i ≡ w * i + w = mul-suc w i in (
      ap (digits_of w (suc i)) grown ∙ rw (high, low, kept.0) (sym more),
      rw (grown, room) bound,
    )

-- each of a number's digits is below its width
below_width : (w k v j : ℕ) → j < length (digits_of w k v) → get_or (digits_of w k v) j 0 < 2 ^ w
unfolding digits_of
below_width w zero v j inside = absurd (omega arith)
below_width w (suc k) v j inside =
    let front : List ℕ = digits_of w k (v / 2 ^ w) in
    let last : ℕ = v % 2 ^ w in
    let long : length (front ++ last ∷ []) ≡ length front + 1 = length-append front (last ∷ []) in
    let small : last < 2 ^ w = mod_below v (2 ^ w) (pow_pos w) in
    elim (cases_lt j (length front)) [
      | inl in_front ↦ rw (get_or_append_left front (last ∷ []) 0 j in_front) (below_width w k (v / 2 ^ w) j in_front)
      | inr past ↦
          let at : length front ≡ j = omega (arith, long, inside, past) in
          rw (get_or_push front last 0 j at) small
    ]

length-digits_of : (w k v : ℕ) → length (digits_of w k v) ≡ k
unfolding digits_of
length-digits_of w zero v = refl
length-digits_of w (suc k) v = length-append (digits_of w k (v / 2 ^ w)) (v % 2 ^ w ∷ []) ∙ ap (λ n. n + 1) (length-digits_of w k (v / 2 ^ w)) ∙ add-one k

-- a letter is read as its digit, and is no `=`
letter_back : (d : ℕ) → d < 32 → letter_value (letter_of d) ≡ Some d
letter_back d small = grind (arith, nat_tests)

not_fill : (d : ℕ) → d < 32 → is_fill (letter_of d) ≡ false
not_fill d small = grind (arith, nat_tests)

digits_back : (ds : List ℕ) → ((j : ℕ) → j < length ds → get_or ds j 0 < 32) → map digit_of (map letter_of ds) ≡ ds
digits_back [] below = refl
digits_back (d ∷ ds) below =
    let first : digit_of (letter_of d) ≡ d = ap (λ o. unwrap_or o 0) (letter_back d (below 0 (omega arith))) in
    ap (λ x. x ∷ map digit_of (map letter_of ds)) first ∙ ap (λ l. d ∷ l) (digits_back ds (λ j inside. below (suc j) (omega arith)))

-- what holds of each digit's letter
each_letter : (p : ℕ → Bool) (ds : List ℕ) → ((d : ℕ) → d < 32 → p (letter_of d) ≡ false)
    → ((j : ℕ) → j < length ds → get_or ds j 0 < 32) → (j : ℕ) → j < length (map letter_of ds) → p (get_or (map letter_of ds) j 0) ≡ false
each_letter p [] all below j inside = absurd (omega arith)
each_letter p (d ∷ ds) all below zero inside = all d (below 0 (omega arith))
each_letter p (d ∷ ds) all below (suc j) inside =
    each_letter p ds all (λ i within. below (suc i) (omega arith)) j (omega arith)

-- a text in which no byte is `=` is kept
no_fill : (text : List ℕ) → ((j : ℕ) → j < length text → is_fill (get_or text j 0) ≡ false) → without_fill text ≡ text
no_fill text each =
    let none : suffix_len is_fill text ≡ length text - length text =
    suffix_len_is is_fill text (length text) 0 (omega arith) (λ k low high. absurd (omega arith)) (λ some. each (length text - 1) (omega arith)) in
    take_all (length text - suffix_len is_fill text) text (omega (arith, none))

-- a text of letters alone has no bad one
no_bad : (text : List ℕ) → ((j : ℕ) → j < length text → is_none (letter_value (get_or text j 0)) ≡ false) → first_bad text ≡ None
no_bad text each =
    let past : position_or_len (λ b. is_none (letter_value b)) text ≡ length text =
    position_or_len_is (λ b. is_none (letter_value b)) text (length text) 0 (omega arith) each (λ inside. absurd (omega arith)) in
    let test : nat_lt (length text) (length text) ≡ false = grind (arith, nat_tests) in
    rw (past, test) refl

below_power : (v j k : ℕ) → j ≡ k → v < 2 ^ j → v < 2 ^ k
below_power v j k same below = rw (← same) below

-- the length of a text of n bytes
good_length : (n k : ℕ) → k ≡ div_ceil (8 * n) 5 → is_bad_length k ≡ false
good_length n k is =
    let one : k % 8 ≢ 1 = omega (arith, is) in
    let three : k % 8 ≢ 3 = omega (arith, is) in
    let six : k % 8 ≢ 6 = omega (arith, is) in
    grind (arith, nat_tests)

pub reads_back : (bytes : List ℕ) → ((j : ℕ) → j < length bytes → get_or bytes j 0 < 2 ^ 8) → base32_bytes (base32_letters bytes) ≡ Ok bytes
unfolding base32_bytes base32_letters byte_digits letters_bytes
reads_back bytes below =
    let n : ℕ = length bytes in
    let k : ℕ = div_ceil (8 * n) 5 in
    let zeros : ℕ = 5 * k - 8 * n in
    let number : ℕ = number_from_digits (2 ^ 8) bytes in
    let v : ℕ = number * 2 ^ zeros in
    let digits : List ℕ = digits_of 5 k v in
    let text : List ℕ = map letter_of digits in
    let small : (j : ℕ) → j < length digits → get_or digits j 0 < 32 = below_width 5 k v in
    let long : length text ≡ k = length-map digits letter_of ∙ length-digits_of 5 k v in
    let kept : without_fill text ≡ text = no_fill text (each_letter is_fill digits not_fill small) in
    let clean : first_bad text ≡ None =
    no_bad text (each_letter (λ b. is_none (letter_value b)) digits (λ d below. ap is_none (letter_back d below)) small) in
    let fine : is_bad_length (length text) ≡ false = ap is_bad_length long ∙ good_length n k refl in
    let sound : fault_of text ≡ None =
    ap (λ o. fault_from o (is_bad_length (length text))) clean ∙ ap (fault_from None) fine in
    let padded : 8 * n + zeros ≡ 5 * k = omega arith in
    let first = front_value 8 n bytes below (omega arith) in
    let all : take n bytes ≡ bytes = take_all n bytes (omega arith) in
    let bound : number < 2 ^ (8 * n) = rw all at first.1 in
    let below_letters : v < 2 ^ (5 * k) = below_power v (8 * n + zeros) (5 * k) padded (shl_below number (8 * n) zeros bound) in
    let value : number_from_digits (2 ^ 5) (map digit_of text) ≡ v =
    ap (number_from_digits (2 ^ 5)) (digits_back digits small) ∙ digits_value 5 k v ∙ mod-eq_of_lt below_letters in
    let count : 5 * length text / 8 ≡ n = omega (arith, long, padded) in
    let left : 5 * length text % 8 ≡ zeros = omega (arith, long, padded) in
    let same : letters_bytes text ≡ bytes =
    ap (λ m. digits_of 8 (5 * length text / 8) (m / 2 ^ (5 * length text % 8))) value
    ∙ ap (λ m. digits_of 8 m (v / 2 ^ (5 * length text % 8))) count
    ∙ ap (λ z. digits_of 8 n (v / 2 ^ z)) left
    ∙ ap (digits_of 8 n) (shl-shr number zeros)
    ∙ ap (λ (l : List ℕ). digits_of 8 n (number_from_digits (2 ^ 8) l)) (sym all) ∙ first.0 ∙ all in
    ap (λ (t : List ℕ). spelled t (fault_of t)) kept ∙ ap (spelled text) sound ∙ ap Ok same
