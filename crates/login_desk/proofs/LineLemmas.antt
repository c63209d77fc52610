-- Lines without newlines in them, and the front that is kept of one.
use Rattle.std.proofs.Common.{◌≡◌, ◌≢◌, ℕ, ◌+◌, ◌<◌, ◌≤◌, Bool, true, false, cond, List, [], ◌∷◌, ◌++◌, length, refl, sym, ap, ◌∙◌, append_assoc, arith}
use Rattle.std.specs.Prelude.{nat_le, nat_lt}
use Rattle.std.proofs.lemmas.List.{append-nil, length-append}
use Rattle.std.proofs.lemmas.Bool.Decides.{nat_tests}
use Rattle.script_lines.specs.Lines.{IsLine, line_limit, is_skipped, bad_head, parts_line, script_line}
use Rattle.login_desk.specs.Intake.{IsFront, with_byte}

pub IsLine-push : (line : List ℕ) (b : ℕ) → IsLine line → b ≢ 10 → IsLine (line ++ b ∷ [])
IsLine-push [] b h p = (p, tt)
IsLine-push (c ∷ line) b h p = (h.0, IsLine-push line b h.1 p)

pub IsFront-nil : (limit : ℕ) → IsFront limit [] []
IsFront-nil limit = record { more = []; begins = refl; whole = λ _. refl }

-- a front of a whole line is the line
front_is : (limit : ℕ) (line kept : List ℕ) → IsFront limit line kept → length kept ≤ limit → line ≡ kept
front_is limit line kept h le = h.begins ∙ ap (λ l. kept ++ l) (h.whole le) ∙ append-nil kept

-- one more byte, kept where the front is within the limit
push : (limit : ℕ) (line kept : List ℕ) (b : ℕ) (t : Bool) → nat_le (length kept) limit ≡ t → IsFront limit line kept → IsFront limit (line ++ b ∷ []) (cond t (kept ++ b ∷ []) kept)
push limit line kept b true e h =
    record { more = []; begins = ap (λ l. l ++ b ∷ []) (front_is limit line kept h (grind (arith, nat_tests))) ∙ sym (append-nil (kept ++ b ∷ [])); whole = λ _. refl }
push limit line kept b false e h =
    record { more = h.more ++ b ∷ []; begins = ap (λ l. l ++ b ∷ []) h.begins ∙ append_assoc kept h.more (b ∷ []); whole = λ le. absurd (grind (arith, nat_tests)) }

pub IsFront-push : (line kept : List ℕ) (b : ℕ) → IsFront line_limit line kept → IsFront line_limit (line ++ b ∷ []) (with_byte kept b)
IsFront-push line kept b h = push line_limit line kept b (nat_le (length kept) line_limit) refl h

kept_push : (limit : ℕ) (kept : List ℕ) (b : ℕ) (t : Bool) → nat_le (length kept) limit ≡ t → length kept ≤ limit + 1 → length (cond t (kept ++ b ∷ []) kept) ≤ limit + 1
kept_push limit kept b true e h = let le : length kept ≤ limit = grind (arith, nat_tests) in omega (arith, length-append kept (b ∷ []))
kept_push limit kept b false e h = h

pub length-with_byte : (kept : List ℕ) (b : ℕ) → length kept ≤ line_limit + 1 → length (with_byte kept b) ≤ line_limit + 1
length-with_byte kept b h = kept_push line_limit kept b (nat_le (length kept) line_limit) refl h

pub front-some : (line kept : List ℕ) → IsFront line_limit line kept → 0 < length kept → 0 < length line
front-some line kept h lt = omega (arith, ap length h.begins, length-append kept h.more)

pub front-none : (line : List ℕ) → IsFront line_limit line [] → line ≡ []
front-none line h = front_is line_limit line [] h (omega arith)

-- ---- the front tells what the line asks

pub is_skipped-front : (line kept : List ℕ) → IsFront line_limit line kept → is_skipped line ≡ is_skipped kept
is_skipped-front line [] h = ap is_skipped (front-none line h)
is_skipped-front line (b ∷ kept) h = ap is_skipped h.begins

-- what depends on a line within the limit alone
within : {A : Type 0} (limit : ℕ) (line kept : List ℕ) (long : A) (f : List ℕ → A) (t : Bool) → nat_lt limit (length kept) ≡ t → IsFront limit line kept
    → cond (nat_lt limit (length line)) long (f line) ≡ cond (nat_lt limit (length kept)) long (f kept)
within limit line kept long f true e h =
    let lengths = ap length h.begins ∙ length-append kept h.more in
    let over : nat_lt limit (length line) ≡ true = grind (arith, nat_tests) in
    rw (over, e) refl
within limit line kept long f false e h = ap (λ l. cond (nat_lt limit (length l)) long (f l)) (front_is limit line kept h (grind (arith, nat_tests)))

pub script_line-front : (line kept : List ℕ) → IsFront line_limit line kept → script_line line ≡ script_line kept
unfolding script_line
script_line-front line kept h = within line_limit line kept bad_head parts_line (nat_lt line_limit (length kept)) refl h
