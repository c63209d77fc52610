-- One step further in the definitions of HMAC and PBKDF2.
use Rattle.std.proofs.Common.{◌≡◌, ℕ, zero, suc, ◌+◌, ◌-◌, ◌*◌, ◌<◌, ◌≤◌, List, [], ◌∷◌, ◌++◌, length, get_or, take, refl, sym, ap, ◌∙◌, append-nil, zero-mul, add-one, arith}
use Rattle.std.specs.Prelude.{bit_xor}
use Rattle.std.specs.Int.{div_ceil, w32, to_be_bytes}
use Rattle.std.proofs.Math.Nat.{mul-le-mul_right, suc-mul}
use Rattle.std.proofs.Math.ListN.{set}
use Rattle.std.proofs.lemmas.List.{take_more_set, take_all, length-append}
use Rattle.std.proofs.lemmas.Grind.{div_ceil_times}
use Rattle.mac_kit.specs.Hmac.{xored}
use Rattle.mac_kit.specs.Pbkdf2.{round_value, xor_through, block_of, blocks_of, pbkdf2}

-- no byte of an xor is written
pub xored-none : (ys : List ℕ) → xored [] ys ≡ []
unfolding xored
xored-none ys = refl

xored-take : (i : ℕ) (xs ys : List ℕ) → i < length xs → i < length ys
    → xored (take (suc i) xs) (take (suc i) ys) ≡ xored (take i xs) (take i ys) ++ bit_xor (get_or xs i 0) (get_or ys i 0) ∷ []
unfolding xored
xored-take i [] ys p q = absurd (omega arith)
xored-take i (x ∷ xs) [] p q = absurd (omega arith)
xored-take zero (x ∷ xs) (y ∷ ys) p q = refl
xored-take (suc i) (x ∷ xs) (y ∷ ys) p q = ap (λ l. bit_xor x y ∷ l) (xored-take i xs ys (omega arith) (omega arith))

-- one more byte of an xor is written
pub xored_more : (i : ℕ) (xs ys out : List ℕ) → i < length xs → i < length ys → i < length out
    → take i out ≡ xored (take i xs) (take i ys)
    → take (i + 1) (set out i (bit_xor (get_or xs i 0) (get_or ys i 0))) ≡ xored (take (i + 1) xs) (take (i + 1) ys)
xored_more i xs ys out p q r done =
    let v = bit_xor (get_or xs i 0) (get_or ys i 0) in
    take_more_set out i v r ∙ ap (λ l. l ++ v ∷ []) done ∙ sym (rw add-one (xored-take i xs ys p q))

-- U_1 is the whole xor of one round
pub first_round : (prf : List ℕ → List ℕ → List ℕ) (password salt : List ℕ) (i : ℕ) (mac number : List ℕ)
    → mac ≡ prf password (salt ++ number) → number ≡ to_be_bytes w32 i
    → (mac ≡ round_value prf password salt i 0) × (mac ≡ xor_through prf password salt i 0)
unfolding xor_through round_value
first_round prf password salt i mac number made written =
    let u = made ∙ ap (λ b. prf password (salt ++ b)) written in
    (u, u)

-- the next U, from round j to round j + 1, which are counted from 1
round_value-next : (prf : List ℕ → List ℕ → List ℕ) (password salt : List ℕ) (i j : ℕ) → 1 ≤ j
    → round_value prf password salt i (j + 1 - 1) ≡ prf password (round_value prf password salt i (j - 1))
unfolding round_value
round_value-next prf password salt i zero low = absurd (omega arith)
round_value-next prf password salt i (suc j) low =
    let a : suc j + 1 - 1 ≡ suc j = omega arith in
    let b : suc j - 1 ≡ j = omega arith in
    rw (a, b) refl

xor_through-next : (prf : List ℕ → List ℕ → List ℕ) (password salt : List ℕ) (i j : ℕ) → 1 ≤ j
    → xor_through prf password salt i (j + 1 - 1)
    ≡ xored (xor_through prf password salt i (j - 1)) (round_value prf password salt i (j + 1 - 1))
unfolding xor_through
xor_through-next prf password salt i zero low = absurd (omega arith)
xor_through-next prf password salt i (suc j) low =
    let a : suc j + 1 - 1 ≡ suc j = omega arith in
    let b : suc j - 1 ≡ j = omega arith in
    rw (a, b) refl

blocks_of-none : (prf : List ℕ → List ℕ → List ℕ) (password salt : List ℕ) (c : ℕ)
    → blocks_of prf password salt c 0 ≡ []
unfolding blocks_of
blocks_of-none prf password salt c = refl

blocks_of-next : (prf : List ℕ → List ℕ → List ℕ) (password salt : List ℕ) (c l : ℕ)
    → blocks_of prf password salt c (l + 1)
    ≡ blocks_of prf password salt c l ++ block_of prf password salt c (l + 1)
unfolding blocks_of
blocks_of-next prf password salt c l = rw add-one refl

-- a block that is needed begins before the end of the key
pub starts_inside : (i n size : ℕ) → 0 < size → i < div_ceil n size → i * size < n
starts_inside i n size pos needed =
    let whole : (i + 1) * size ≤ div_ceil n size * size = mul-le-mul_right size (omega arith) in
    let next : (i + 1) * size ≡ i * size + size = rw add-one (suc-mul i size) in
    omega (arith, (div_ceil_times n size pos).1)

-- one more round: the last U and the xor so far
pub round_more : (prf : List ℕ → List ℕ → List ℕ) (password salt : List ℕ) (i j : ℕ) (last next sum new : List ℕ) → 1 ≤ j
    → (last ≡ round_value prf password salt i (j - 1)) × (sum ≡ xor_through prf password salt i (j - 1))
    → next ≡ prf password (last ++ []) → new ≡ xored sum next
    → (next ≡ round_value prf password salt i (j + 1 - 1)) × (new ≡ xor_through prf password salt i (j + 1 - 1))
round_more prf password salt i j last next sum new low kept mac mixed =
    let u : next ≡ round_value prf password salt i (j + 1 - 1) =
    mac ∙ ap (prf password) (append-nil last ∙ kept.0) ∙ sym (round_value-next prf password salt i j low) in
    (u, mixed ∙ rw (kept.1, u) (sym (xor_through-next prf password salt i j low)))

pub all_rounds : (prf : List ℕ → List ℕ → List ℕ) (password salt : List ℕ) (i j c : ℕ) (sum : List ℕ) → j ≡ c
    → sum ≡ xor_through prf password salt i (j - 1) → sum ≡ block_of prf password salt c i
all_rounds prf password salt i j c sum ended kept = kept ∙ ap (λ k. xor_through prf password salt i (k - 1)) ended

-- one more block is written
pub block_more : (prf : List ℕ → List ℕ → List ℕ) (password salt : List ℕ) (c i size n : ℕ) (old new block : List ℕ)
    → length block ≡ size → i * size ≤ n → block ≡ block_of prf password salt c (i + 1)
    → (length (blocks_of prf password salt c i) ≡ i * size) × (take (i * size) old ≡ take n (blocks_of prf password salt c i))
    → take (i * size + length block) new ≡ take n (take (i * size) old ++ block)
    → (length (blocks_of prf password salt c (i + 1)) ≡ (i + 1) * size)
    × (take ((i + 1) * size) new ≡ take n (blocks_of prf password salt c (i + 1)))
block_more prf password salt c i size n old new block long inside made kept put =
    let done = blocks_of prf password salt c i in
    let grown : done ++ block ≡ blocks_of prf password salt c (i + 1) =
    ap (λ (l : List ℕ). done ++ l) made ∙ sym (blocks_of-next prf password salt c i) in
    let next : (i + 1) * size ≡ i * size + size = rw add-one (suc-mul i size) in
    let size_of : length (done ++ block) ≡ (i + 1) * size =
    length-append done block ∙ omega (arith, kept.0, long, next) in
    let at : (i + 1) * size ≡ i * size + length block = omega (arith, next, long) in
    let whole : take (i * size) old ≡ done = kept.1 ∙ take_all n done (omega (arith, kept.0, inside)) in
    let value : take ((i + 1) * size) new ≡ take n (done ++ block) =
    ap (λ k. take k new) at ∙ put ∙ ap (λ (l : List ℕ). take n (l ++ block)) whole in
    (rw grown at size_of, rw grown at value)

-- before the first block
pub none_written : (prf : List ℕ → List ℕ → List ℕ) (password salt : List ℕ) (c size n : ℕ) (out : List ℕ)
    → (length (blocks_of prf password salt c 0) ≡ 0 * size) × (take (0 * size) out ≡ take n (blocks_of prf password salt c 0))
none_written prf password salt c size n out =
    rw (zero-mul size, blocks_of-none prf password salt c) (refl, sym (take_all n [] (omega arith)))

-- all blocks that the key takes are written
pub all_written : (prf : List ℕ → List ℕ → List ℕ) (password salt : List ℕ) (c i size n : ℕ) (out : List ℕ)
    → length out ≡ n → 0 < size → i ≡ div_ceil n size
    → take (i * size) out ≡ take n (blocks_of prf password salt c i)
    → out ≡ pbkdf2 prf size password salt c n
unfolding pbkdf2
all_written prf password salt c i size n out long pos end done =
    let enough : n ≤ div_ceil n size * size = (div_ceil_times n size pos).0 in
    let past : n ≤ i * size = rw end enough in
    sym (take_all (i * size) out (omega (arith, long, past))) ∙ done
    ∙ ap (λ k. take n (blocks_of prf password salt c k)) end
