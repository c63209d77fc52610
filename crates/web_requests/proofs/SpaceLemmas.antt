-- Spaces at the end of a text.
use Rattle.std.proofs.Common.{◌≡◌, ◌≢◌, ℕ, ◌==◌, Bool, true, false, List, [], ◌∷◌, ◌++◌, length, refl, sym, ap, ◌∙◌, arith}
use Rattle.std.specs.Prelude.{reverse}
use Rattle.std.proofs.lemmas.Bool.{false≢true}
use Rattle.std.proofs.lemmas.Bool.Decides.{nat_tests}
use Rattle.std.proofs.lemmas.List.{reverse-append, reverse-reverse}
use Rattle.web_requests.specs.Texts.{skip_spaces}

-- a last byte is the first one from behind
turned : (text rest : List ℕ) (last : ℕ) → text ≡ rest ++ last ∷ [] → reverse text ≡ last ∷ reverse rest
turned text rest last e = ap reverse e ∙ reverse-append rest (last ∷ [])

skipped : (last : ℕ) (bytes : List ℕ) → last ≡ 32 → skip_spaces (last ∷ bytes) ≡ skip_spaces bytes
unfolding skip_spaces
skipped last bytes e = rw e refl

kept : (last : ℕ) (bytes : List ℕ) → last ≢ 32 → skip_spaces (last ∷ bytes) ≡ last ∷ bytes
unfolding skip_spaces
kept last bytes e = grind (arith, nat_tests)

-- a space at the end goes
pub goes : (text rest : List ℕ) (last : ℕ) → text ≡ rest ++ last ∷ [] → last ≡ 32 → skip_spaces (reverse text) ≡ skip_spaces (reverse rest)
goes text rest last e is = ap skip_spaces (turned text rest last e) ∙ skipped last (reverse rest) is

-- a text that ends with another byte stays
pub stays : (text rest : List ℕ) (last : ℕ) → text ≡ rest ++ last ∷ [] → last ≢ 32 → reverse (skip_spaces (reverse text)) ≡ text
stays text rest last e other =
    ap (λ bytes. reverse (skip_spaces bytes)) (turned text rest last e) ∙ ap reverse (kept last (reverse rest) other ∙ sym (turned text rest last e)) ∙ reverse-reverse text

-- an empty one too
pub stays_empty : (text : List ℕ) → length text ≡ 0 → reverse (skip_spaces (reverse text)) ≡ text
unfolding skip_spaces
stays_empty [] e = refl
stays_empty (b ∷ bytes) e = absurd (omega (arith, e))
