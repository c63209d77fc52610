-- Digits and numbers.
use Rattle.std.proofs.Common.{◌-◌, drop, take, get_or, add-one, ◌≡◌, ℕ, zero, suc, ◌+◌, ◌*◌, ◌/◌, ◌%◌, ◌^◌, ◌<◌, ◌≤◌, Bool, true, false, cond, List, [], ◌∷◌, ◌++◌, length, Option, Some, None, eqb, ◌&&◌, refl, sym, ap, ◌∙◌, arith}
use Rattle.std.specs.Prelude.{IfSome}
use Rattle.std.proofs.Math.Seq.{drop-cons, get_or-append_seam, take-append_seam, drop-append_seam, drop-append-add, take-length}
use Rattle.std.proofs.Math.ListN.{set, drop_of_length-le}
use Rattle.std.proofs.lemmas.List.{drop-set}
use Rattle.std.proofs.lemmas.Bool.Decides.{nat_tests}
use Rattle.std.proofs.lemmas.Nat.{shr-shr, mod-pow-add, pow-add}
use Rattle.std.proofs.Math.Nat.{pow-le-pow_right}
use Rattle.login_base.specs.IdText.{hex_text, hex_digit, hex_value_from, digit_value, then_digit, id_of, id_bytes, IsId, ◌>>=◌}
use Rattle.login_base.specs.declared.id.Id.{Id}
use Rattle.std.proofs.lemmas.List.{length-append, length-take, length-drop, drop-drop, take-append-drop, append_assoc, append-nil}
use Rattle.std.proofs.lemmas.Bool.{eqb-true, eq-eqb}

pub next_digit : (n i rest : ℕ) → rest ≡ n / 2 ^ (4 * i) → rest / 16 ≡ n / 2 ^ (4 * (i + 1))
next_digit n i rest h = ap (λ r. r / 16) h ∙ shr-shr n (4 * i) 4 ∙ ap (λ k. n / 2 ^ k) (omega arith)

four_more : (i : ℕ) → 2 ^ (4 * (i + 1)) ≡ 2 ^ (4 * i) * 16
four_more i = let e : 4 * (i + 1) ≡ 4 * i + 4 = omega arith in ap (λ k. 2 ^ k) e ∙ pow-add 2 (4 * i) 4

pub digit_fits : (n i d : ℕ) → n < 2 ^ (4 * i) → d < 16 → n * 16 + d < 2 ^ (4 * (i + 1))
digit_fits n i d p q = rw (four_more i) (omega arith)

pow_up : (i j : ℕ) → i ≤ j → 2 ^ i ≤ 2 ^ j
pow_up i j h = let p : (0 < 2) = omega arith in pow-le-pow_right p h

pub fits_word : (n i : ℕ) → n < 2 ^ (4 * i) → i < 16 → n * 16 + 15 < 2 ^ 64
fits_word n i p q =
    let top : 2 ^ (4 * (i + 1)) ≤ 2 ^ 64 = pow_up (4 * (i + 1)) 64 (omega arith) in
    let below = digit_fits n i 15 p (omega arith) in omega arith

pub digit_step : (text : List ℕ) (i n d : ℕ) → i < length text → digit_value (get_or text i 0) ≡ Some d → hex_value_from n (drop i text) ≡ hex_value_from (n * 16 + d) (drop (i + 1) text)
unfolding hex_value_from
digit_step text i n d lt h = rw (add-one, drop-cons text i 0, h) refl

pub no_digit : (text : List ℕ) (i n : ℕ) → i < length text → digit_value (get_or text i 0) ≡ None → hex_value_from n (drop i text) ≡ None
unfolding hex_value_from
no_digit text i n lt h = rw (drop-cons text i 0, h) refl

pub no_more : (text : List ℕ) (i n : ℕ) → length text ≤ i → hex_value_from n (drop i text) ≡ Some n
unfolding hex_value_from
no_more text i n le = rw (drop_of_length-le text le) refl

pub one_more : (out : List ℕ) (i n d : ℕ) → length out ≡ 16 → i < 16 → d ≡ hex_digit (n / 2 ^ (4 * i) % 16) → drop (16 - i) out ≡ hex_text i n → drop (16 - (i + 1)) (set out (15 - i) d) ≡ hex_text (i + 1) n
unfolding hex_text
one_more out i n d len lt e h =
    let at : 16 - (i + 1) ≡ 15 - i = omega arith in
    let next : 15 - i + 1 ≡ 16 - i = omega arith in
    let within : 15 - i < length out = omega arith in
    rw (at, drop-set out (15 - i) d within, next, h, e, add-one) refl

digit_back : (d : ℕ) → d < 16 → digit_value (hex_digit d) ≡ Some d
digit_back d h = grind (arith, nat_tests)

digit_of_value : (x d : ℕ) → digit_value x ≡ Some d → (hex_digit d ≡ x) × (d < 16)
digit_of_value x d h = grind (arith, nat_tests)

then_digit_some : (more : ℕ → Option ℕ) (n : ℕ) (o : Option ℕ) (y : ℕ) → then_digit more n o ≡ Some y → (d : ℕ) × (o ≡ Some d) × (more (n * 16 + d) ≡ Some y)
then_digit_some more n None y h = absurd cc
then_digit_some more n (Some d) y h = (d, refl, h)

pub value_text : (k n v : ℕ) → hex_value_from v (hex_text k n) ≡ Some (v * 2 ^ (4 * k) + n % 2 ^ (4 * k))
unfolding hex_value_from hex_text
value_text zero n v = ap Some (omega arith)
value_text (suc k) n v =
    let d : ℕ = n / 2 ^ (4 * k) % 16 in
    let e : 4 * suc k ≡ 4 + 4 * k = omega arith in
    let power : 2 ^ (4 * suc k) ≡ 16 * 2 ^ (4 * k) = ap (λ j. 2 ^ j) e ∙ pow-add 2 4 (4 * k) in
    let low : n % 2 ^ (4 * suc k) ≡ d * 2 ^ (4 * k) + n % 2 ^ (4 * k) = ap (λ j. n % 2 ^ j) e ∙ mod-pow-add n 4 (4 * k) in
    let total : (v * 16 + d) * 2 ^ (4 * k) + n % 2 ^ (4 * k) ≡ v * 2 ^ (4 * suc k) + (d * 2 ^ (4 * k) + n % 2 ^ (4 * k)) = rw power (omega arith) in
    rw (digit_back d (omega arith)) (value_text k n (v * 16 + d) ∙ ap Some (total ∙ sym (ap (λ m. v * 2 ^ (4 * suc k) + m) low)))

pub text_value : (t : List ℕ) (n v : ℕ) → hex_value_from v t ≡ Some n → (hex_text (length t) n ≡ t) × (n / 2 ^ (4 * length t) ≡ v)
unfolding hex_value_from hex_text
text_value [] n v h = (refl, let e : v ≡ n = cc in omega arith)
text_value (x ∷ xs) n v h =
    let a = then_digit_some (λ m. hex_value_from m xs) v (digit_value x) n h in
    let d = digit_of_value x a.0 a.1 in
    let rest = text_value xs n (v * 16 + a.0) a.2 in
    let k : ℕ = length xs in
    let low : n / 2 ^ (4 * k) % 16 ≡ a.0 = rw rest.1 (omega arith) in
    let e : 4 * suc k ≡ 4 * k + 4 = omega arith in
    let high : n / 2 ^ (4 * suc k) ≡ v = ap (λ j. n / 2 ^ j) e ∙ sym (shr-shr n (4 * k) 4) ∙ ap (λ r. r / 16) rest.1 ∙ omega arith in
    (rw (low, d.0, rest.0) refl, high)

-- ---- ids

at_front : (k : ℕ) (a b : List ℕ) → length a ≡ k → take k (a ++ b) ≡ a
at_front k a b h = rw (← h) (take-append_seam a b)

past_mid : (k j d : ℕ) (a b : List ℕ) → length a ≡ k → j ≡ k + 1 → drop j (a ++ d ∷ b) ≡ b
past_mid k j d a b h e = rw (e, ← h) (drop-append-add a (d ∷ b) 1)

past_two : (k j i d : ℕ) (a b c : List ℕ) → length a ≡ k → length b ≡ k → j ≡ k + 1 → i ≡ k + j → drop i (a ++ d ∷ (b ++ c)) ≡ c
past_two k j i d a b c h g e f =
    let first = past_mid k j d a (b ++ c) h e in
    let sum : i ≡ j + k = omega arith in
    ap (λ n. drop n (a ++ d ∷ (b ++ c))) sum ∙ sym (drop-drop k j (a ++ d ∷ (b ++ c))) ∙ ap (drop k) first ∙ rw (← g) (drop-append_seam b c)

at_mid : (k d : ℕ) (a b : List ℕ) → length a ≡ k → get_or (a ++ d ∷ b) k 0 ≡ d
at_mid k d a b h = rw (← h) (get_or-append_seam a d b 0)

whole : (text : List ℕ) (k : ℕ) → length text ≡ k → take k text ≡ text
whole text k h = rw (← h) (take-length text)

-- a text in three parts and a byte
in_parts : (k j i d : ℕ) (text a b c : List ℕ) → k < length text → j ≡ k + 1 → i ≡ j + k → get_or text k 0 ≡ d → take k text ≡ a → take k (drop j text) ≡ b → drop i text ≡ c → text ≡ a ++ d ∷ (b ++ c)
in_parts k j i d text a b c lt e f at first second third =
    let tail : drop k text ≡ d ∷ drop j text = drop-cons text k 0 lt ∙ ap (λ x. x ∷ drop (suc k) text) at ∙ ap (λ n. d ∷ drop n text) (let s : suc k ≡ j = omega arith in s) in
    let more : drop j text ≡ b ++ c = sym (take-append-drop k (drop j text)) ∙ ap (λ x. x ++ drop k (drop j text)) second ∙ ap (λ x. b ++ x) (drop-drop k j text ∙ ap (λ n. drop n text) (sym f) ∙ third) in
    sym (take-append-drop k text) ∙ ap (λ x. x ++ drop k text) first ∙ ap (λ x. a ++ x) (tail ∙ ap (λ x. d ∷ x) more)

pub joined : (k at : ℕ) (out a h b mid : List ℕ) → a ≡ take at out → b ≡ drop k mid → mid ≡ drop at out → a ++ (h ++ b) ≡ (take at out ++ h) ++ drop (at + k) out
joined k at out a h b mid p q r = rw (p, q, r, drop-drop) (sym (append_assoc (take at out) h (drop (at + k) out)))

length-hex_text : (k n : ℕ) → length (hex_text k n) ≡ k
unfolding hex_text
length-hex_text zero n = refl
length-hex_text (suc k) n = ap suc (length-hex_text k n)

bind_some : {A B : Type 0} (o : Option A) (f : A → Option B) (y : B) → (o >>= f) ≡ Some y → (x : A) × (o ≡ Some x) × (f x ≡ Some y)
bind_some None f y h = absurd cc
bind_some (Some x) f y h = (x, refl, h)

both_tests : {A : Type 0} (a b : Bool) (o : Option A) (y : A) → cond (a && b) o None ≡ Some y → (a ≡ true) × (b ≡ true) × (o ≡ Some y)
both_tests true true o y h = (refl, refl, h)
both_tests true false o y h = absurd cc
both_tests false b o y h = absurd cc

digits_of : (text : List ℕ) (n : ℕ) → length text ≡ 16 → hex_value_from 0 text ≡ Some n → text ≡ hex_text 16 n
digits_of text n len h = sym (text_value text n 0 h).0 ∙ ap (λ k. hex_text k n) len

same_id : (j i : Id) → ◌≡◌ {A = Option Id} (Some j) (Some i) → id_bytes j ≡ id_bytes i
same_id j i h = let e : j ≡ i = cc in ap id_bytes e

pub id_found : (text : List ℕ) (i : Id) → id_of text ≡ Some i → text ≡ id_bytes i
unfolding id_of id_bytes
id_found text i h =
    let t = both_tests (eqb (length text) 49) (eqb (get_or text 16 0) 46) _ i h in
    let len : length text ≡ 49 = eqb-true _ _ t.0 in
    let a = bind_some (hex_value_from 0 (take 16 text)) _ i t.2 in
    let b = bind_some (hex_value_from 0 (take 16 (drop 17 text))) _ i a.2 in
    let c = bind_some (hex_value_from 0 (take 16 (drop 33 text))) _ i b.2 in
    let first = digits_of (take 16 text) a.0 (omega (arith, length-take 16 text)) a.1 in
    let second = digits_of (take 16 (drop 17 text)) b.0 (omega (arith, length-take 16 (drop 17 text), length-drop 17 text)) b.1 in
    let third = digits_of (take 16 (drop 33 text)) c.0 (omega (arith, length-take 16 (drop 33 text), length-drop 33 text)) c.1 in
    let all : take 16 (drop 33 text) ≡ drop 33 text = whole (drop 33 text) 16 (omega (arith, length-drop 33 text)) in
    let parts = in_parts 16 17 33 46 text _ _ _ (omega arith) refl refl (eqb-true _ _ t.1) first second (sym all ∙ third) in
    parts ∙ same_id (record { serial = a.0; high = b.0; low = c.0 }) i c.2

made : (o p : Bool) (a b c : Option ℕ) (i : Id) → o ≡ true → p ≡ true → a ≡ Some i.serial → b ≡ Some i.high → c ≡ Some i.low
    → cond (o && p) (a >>= λ serial. b >>= λ high. c >>= λ low. Some (record { serial = serial; high = high; low = low })) None ≡ Some i
made o p a b c i e f g h k = rw (e, f, g, h, k) refl

digits_again : (n : ℕ) (text : List ℕ) → n < 2 ^ 64 → text ≡ hex_text 16 n → hex_value_from 0 text ≡ Some n
digits_again n text lt e = ap (hex_value_from 0) e ∙ value_text 16 n 0 ∙ ap Some (omega arith)

pub id_again : (i : Id) → IsId i → id_of (id_bytes i) ≡ Some i
unfolding id_of id_bytes
id_again i h =
    let x = hex_text 16 i.serial in
    let y = hex_text 16 i.high in
    let z = hex_text 16 i.low in
    let lx = length-hex_text 16 i.serial in
    let ly = length-hex_text 16 i.high in
    let lz = length-hex_text 16 i.low in
    made _ _ _ _ _ i
    (eq-eqb _ _ (length-append x (46 ∷ (y ++ z)) ∙ omega (arith, lx, ly, lz, length-append y z)))
    (eq-eqb _ _ (at_mid 16 46 x (y ++ z) lx))
    (digits_again i.serial _ h.serial (at_front 16 x (46 ∷ (y ++ z)) lx))
    (digits_again i.high _ h.high (ap (take 16) (past_mid 16 17 46 x (y ++ z) lx refl) ∙ at_front 16 y z ly))
    (digits_again i.low _ h.low (ap (take 16) (past_two 16 17 33 46 x y z lx ly refl refl) ∙ whole z 16 lz))

pub is_found : (text : List ℕ) (r : Option Id) → r ≡ id_of text → IfSome r (λ i. text ≡ id_bytes i)
is_found text None h = tt
is_found text (Some i) h = id_found text i (sym h)

pub assembled : (out1 out2 out3 x y z r : List ℕ) → length x ≡ 16 → length y ≡ 16 → length z ≡ 16 → length r ≡ 32 → out1 ≡ x ++ 46 ∷ r → out2 ≡ (take 17 out1 ++ y) ++ drop 33 out1 → out3 ≡ (take 33 out2 ++ z) ++ drop 49 out2
    → out3 ≡ x ++ 46 ∷ (y ++ z)
assembled out1 out2 out3 x y z r lx ly lz lr first second third =
    let a : List ℕ = x ++ 46 ∷ [] in
    let la : length a ≡ 17 = length-append x (46 ∷ []) ∙ omega (arith, lx) in
    let t1 : take 17 out1 ≡ a = ap (take 17) (first ∙ sym (append_assoc x (46 ∷ []) r)) ∙ at_front 17 a r la in
    let t2 : take 33 out2 ≡ a ++ y = ap (take 33) second ∙ at_front 33 (take 17 out1 ++ y) (drop 33 out1) (ap (λ l. length (l ++ y)) t1 ∙ length-append a y ∙ omega (arith, la, ly)) ∙ ap (λ l. l ++ y) t1 in
    let size : length out2 ≡ 49 = ap length second ∙ length-append (take 17 out1 ++ y) (drop 33 out1) ∙ omega (arith, length-append (take 17 out1) y, ap length t1, la, ly, length-drop 33 out1, ap length first, length-append x (46 ∷ r), lx, lr) in
    third ∙ ap (λ l. (take 33 out2 ++ z) ++ l) (drop_of_length-le out2 {i = 49} (omega arith)) ∙ append-nil (take 33 out2 ++ z) ∙ ap (λ l. l ++ z) t2 ∙ append_assoc a y z ∙ append_assoc x (46 ∷ []) (y ++ z)

pub sixteen : (n : ℕ) → length (hex_text 16 n) ≡ 16
sixteen n = length-hex_text 16 n

pub taken : (at count : ℕ) (bytes buffer copied : List ℕ) → count ≤ length buffer → at + count ≤ length bytes → copied ≡ take count (drop at bytes)
    → (count ≤ length (copied ++ drop count buffer)) × (drop at bytes ≡ take count (copied ++ drop count buffer) ++ drop (at + count) bytes)
taken at count bytes buffer copied le fits e =
    let len : length copied ≡ count = ap length e ∙ omega (arith, length-take count (drop at bytes), length-drop at bytes) in
    (omega (arith, length-append copied (drop count buffer), len), sym (take-append-drop count (drop at bytes)) ∙ ap (λ x. x ++ drop count (drop at bytes)) (sym e) ∙ ap (λ x. copied ++ x) (drop-drop count at bytes) ∙ ap (λ x. x ++ drop (at + count) bytes) (sym (at_front count copied (drop count buffer) len)))
